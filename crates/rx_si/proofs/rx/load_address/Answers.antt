use Rattle.machine.specs.Rx.{rx}
use Rattle.rx_si.proofs.rx.load_address.Goals as goal

pub returns : goal.returns
unfolding rx
returns c = rw (← c.operand_address-at.ensures, ← c.ahead_of-next.ensures, ← c.put_reg.ensures)
