use Rattle.actions.proofs.OnPairs.{done_answers}
use Rattle.actions.proofs.rr.execute.Goals as goal

pub returns-in-Registers : goal.returns-in-Registers
returns-in-Registers c = rw c.in-Registers.is (done_answers _ _ _ _ c.combine.ensures)

pub returns-in-RegisterBranch : goal.returns-in-RegisterBranch
returns-in-RegisterBranch c = rw c.in-RegisterBranch.is (done_answers _ _ _ _ c.branch-regs.ensures)

pub returns-in-PairAndRegister : goal.returns-in-PairAndRegister
returns-in-PairAndRegister c = rw c.in-PairAndRegister.is c.pair.ensures
