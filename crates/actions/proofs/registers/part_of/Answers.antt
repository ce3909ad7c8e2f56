use borrow.Author.Tests.{eq-eqb, ne_eqb}
use Rattle.machine.specs.Cpu.{part, reg}
use Rattle.actions.proofs.registers.part_of.Goals as goal

pub returns-then-i-eq0 : goal.returns-then-i-eq0
unfolding part reg
returns-then-i-eq0 c = simp (eq-eqb _ _ c.if-i-eq0.true)

pub returns-else-i-eq0 : goal.returns-else-i-eq0
unfolding part reg
returns-else-i-eq0 c = simp (ne_eqb _ _ c.if-i-eq0.false) c.reg.ensures
