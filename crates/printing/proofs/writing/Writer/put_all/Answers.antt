use mathlib.Core.Path.{refl}
use Rattle.printing.proofs.WritingLoops.{all_left, text_turn, text_end}
use Rattle.printing.proofs.writing.Writer.put_all.Goals as goal

pub loop-b-init : goal.loop-b-init
loop-b-init c = all_left _ _ _ refl

pub loop-b-preserved : goal.loop-b-preserved
loop-b-preserved c = search text_turn

pub returns : goal.returns
returns c = search text_end
