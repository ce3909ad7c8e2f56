use Rattle.machine.specs.Cpu.{reg}
use Rattle.machine.specs.Rs.{index_sum}
use Rattle.rs_ss.proofs.rs.index_sum.Goals as goal

pub returns : goal.returns
unfolding index_sum reg
returns c = rw (c.reg-a.ensures, c.reg-b.ensures)
