use mathlib.Core.Path.{refl}
use Rattle.printing.proofs.WritingLoops.{all_left, regs_turn, regs_end}
use Rattle.printing.proofs.writing.Writer.put_regs.Goals as goal

pub loop-n-init : goal.loop-n-init
loop-n-init c = all_left _ _ _ refl

pub loop-n-preserved : goal.loop-n-preserved
loop-n-preserved c = search regs_turn

pub returns : goal.returns
returns c = search regs_end
