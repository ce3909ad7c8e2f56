use Rattle.std.proofs.Common.{refl}
use Rattle.fields.proofs.flat.byte_of.Goals as goal

pub returns : goal.returns
returns c = refl
