use mathlib.Core.Path.{refl}
use Rattle.printing.proofs.WritingLoops.{all_left}
use Rattle.listing.proofs.Loops.{bytes_turn, bytes_end}
use Rattle.listing.proofs.operands.put_bytes.Goals as goal

pub loop-b-init : goal.loop-b-init
loop-b-init c = all_left _ _ _ refl

pub loop-b-preserved : goal.loop-b-preserved
loop-b-preserved c = search bytes_turn

pub returns : goal.returns
returns c = search bytes_end
