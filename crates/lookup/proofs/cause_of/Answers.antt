use borrow.Author.Tests.{eq-eqb, ne_eqb}
use Rattle.pages.specs.Word.{bit_u}
use Rattle.lookup.specs.Barred.{cause_of}
use Rattle.lookup.proofs.cause_of.Goals as goal

pub returns-then-w-eq0 : goal.returns-then-w-eq0
unfolding bit_u cause_of
returns-then-w-eq0 c = simp (eq-eqb _ _ c.if-w-eq0.true)

pub returns : goal.returns
unfolding bit_u cause_of
returns c = simp (ne_eqb _ _ c.if-w-eq0.false)
