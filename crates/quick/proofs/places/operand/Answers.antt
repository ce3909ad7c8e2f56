use mathlib.Core.Path.{sym, ◌∙◌}
use borrow.Author.Tests.{eqb-true}
use Rattle.quick.proofs.Answered.{field_off, field_on, field_at}
use Rattle.quick.proofs.places.operand.Goals as goal

pub returns-then-not-is_on : goal.returns-then-not-is_on
returns-then-not-is_on c = λ d. field_off _ _ _ _ _

pub returns : goal.returns
returns c =
    λ d. field_at _ _ _ _ _ _ _ (c.address-a.ensures d)
    (field_on _ _ _ _ _ _ (eqb-true _ _ (sym c.is_on.ensures ∙ c.if-not-is_on.false)) c.look_marked.ensures)
