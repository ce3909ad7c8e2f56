use Rattle.std.proofs.Common.{refl}
use Rattle.fields.proofs.flat.put_byte.Goals as goal

pub returns : goal.returns
returns c = refl
