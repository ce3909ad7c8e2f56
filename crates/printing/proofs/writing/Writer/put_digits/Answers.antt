use mathlib.Core.Path.{refl}
use Rattle.printing.proofs.WritingLoops.{all_left, digits_turn, digits_end}
use Rattle.printing.proofs.writing.Writer.put_digits.Goals as goal

pub loop-behind-init : goal.loop-behind-init
loop-behind-init c = all_left _ _ _ refl

pub loop-behind-preserved : goal.loop-behind-preserved
loop-behind-preserved c = search digits_turn

pub returns : goal.returns
returns c = search digits_end
