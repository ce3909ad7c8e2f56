use mathlib.Core.Path.{ap}
use Rattle.machine.specs.Prog.{done}
use Rattle.machine.specs.Rx.{rx}
use Rattle.rx_si.proofs.rx.branch.Goals as goal

pub returns : goal.returns
unfolding rx
returns c = rw (← c.operand_address-to.ensures) (ap done c.take.ensures)
