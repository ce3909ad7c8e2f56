use Rattle.printing.proofs.Places.{divide_none, divide_turn}
use Rattle.printing.proofs.digits.without.Goals as goal

pub loop-init : goal.loop-init
loop-init c = search divide_none

pub loop-preserved : goal.loop-preserved
loop-preserved c = search divide_turn
