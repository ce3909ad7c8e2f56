use borrow.Author.Tests.{eq-eqb, ne_eqb}
use Rattle.machine.specs.Cpu.{part, reg}
use Rattle.quick.proofs.places.part.Goals as goal

pub returns-then-i-eq0 : goal.returns-then-i-eq0
unfolding part
returns-then-i-eq0 c = λ d. rw (eq-eqb _ _ c.if-i-eq0.true)

pub returns : goal.returns
unfolding part reg
returns c = λ d. rw (c.from.ensures, ne_eqb _ _ c.if-i-eq0.false)
