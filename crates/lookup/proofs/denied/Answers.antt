use borrow.Author.Tests.{eq-eqb, ne_eqb}
use Rattle.pages.specs.Word.{bit_e}
use Rattle.lookup.proofs.denied.Goals as goal

pub returns-then-w-eq1 : goal.returns-then-w-eq1
unfolding bit_e
returns-then-w-eq1 c = simp (eq-eqb _ _ c.if-w-eq1.true) c.is_store.ensures

pub returns-else-w-eq1 : goal.returns-else-w-eq1
unfolding bit_e
returns-else-w-eq1 c = simp (ne_eqb _ _ c.if-w-eq1.false)
