use Rattle.machine.specs.Cpu.{reg}
use Rattle.machine.specs.Rs.{is_high, comparand}
use Rattle.rs_ss.proofs.rs.is_high.Goals as goal

pub returns : goal.returns
unfolding is_high comparand reg
returns c = rw (← c.requires, ← c.reg-other.ensures) c.high.ensures
