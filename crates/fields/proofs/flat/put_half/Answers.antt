use Rattle.std.proofs.Common.{arith}
use Rattle.fields.proofs.Widths.{put_half_is}
use Rattle.fields.proofs.flat.put_half.Goals as goal

pub returns : goal.returns
returns c = put_half_is _ _ _ _ _ (omega arith) c.put_byte.ensures c.put_byte-2.ensures
