use Rattle.std.proofs.lemmas.Result.{err_from_is_err_and}
use native.Mathlib.Omega.{arith}
use native.Mathlib.Numerals.{add-one}
use mathlib.Core.Path.{refl, sym, ◌∙◌, ap}
use Rattle.std.specs.Prelude.{Err}
use Rattle.pages.specs.declared.Access.TheVariants.{Load}
use Rattle.pages.proofs.ReachLaws.{reach_inside}
use Rattle.fields.proofs.Pieces.{room}
use Rattle.machine.specs.Ss.{ss}
use Rattle.rs_ss.proofs.Ways.{first_ended, compare_ended, compare_quick}
use Rattle.rs_ss.proofs.ss.compare_fields.Goals as goal

pub returns-in_err-one : goal.returns-in_err-one
unfolding ss
returns-in_err-one c = let p = err_from_is_err_and c.from_residual.result c.from_residual.ensures.1 in rw (p.1, ← c.from-n.ensures, ← c.first_address-first.ensures, ← c.second_address-second.ensures, ← add-one) (first_ended _ _ _ _ _ _ _ (omega arith) Load tt _ _ c.look_up.ensures _ c.in_err-one.was _ p.2)

pub compare_field-requires : goal.compare_field-requires
compare_field-requires c = omega arith

pub returns-in_err-code : goal.returns-in_err-code
unfolding ss
returns-in_err-code c = let p = err_from_is_err_and c.from_residual-in_err-code.result c.from_residual-in_err-code.ensures.1 in rw (← c.from-n.ensures, ← c.first_address-first.ensures, ← c.second_address-second.ensures, ← add-one) (compare_ended _ _ _ _ _ _ _ (omega arith) _ refl _ c.compare_field.ensures.0 _ c.compare_field.ensures.1 _ (rw (p.1, c.in_err-code.was) (ap Err p.2)))

pub returns-in_default : goal.returns-in_default
unfolding ss
returns-in_default c = rw (← c.from-n.ensures, ← c.first_address-first.ensures, ← c.second_address-second.ensures, ← add-one) (compare_ended _ _ _ _ _ _ _ (omega arith) _ refl _ c.compare_field.ensures.0 _ c.compare_field.ensures.1 _ (rw (c.in_ok-code.was, c.ahead_of-pc.ensures)))

pub compare_flat-code-requires : goal.compare_flat-code-requires
compare_flat-code-requires c = (room _ _ _ _ (reach_inside _ _ _ _ _ _ (sym c.look_up.ensures ∙ c.in_ok-one.was)) c.if-n-one.true, room _ _ _ _ (reach_inside _ _ _ _ _ _ (sym c.look_up-2.ensures ∙ c.in-Ok.is)) c.if-n-other.true)

pub returns-then-n-other : goal.returns-then-n-other
unfolding ss
returns-then-n-other c = rw (← c.from-n.ensures, ← c.first_address-first.ensures, ← c.second_address-second.ensures, ← add-one) (compare_quick _ _ _ _ _ _ _ (omega arith) _ c.look_up-2.ensures _ _ _ _ c.in-Ok.is c.if-n-one.true c.if-n-other.true _ _ c.mark.ensures c.mark-then-n-other.ensures _ c.in_ok-one.was _ c.ahead_of-pc.ensures c.look_up.ensures _ c.compare_flat-code.ensures)

pub compare_over-requires : goal.compare_over-requires
compare_over-requires c = (omega arith, sym c.look_up.ensures ∙ c.in_ok-one.was, sym c.look_up-2.ensures ∙ c.in-Ok.is)

pub returns-in_err-code-2 : goal.returns-in_err-code-2
unfolding ss
returns-in_err-code-2 c = let p = err_from_is_err_and c.from_residual-in_err-code-2.result c.from_residual-in_err-code-2.ensures.1 in rw (← c.from-n.ensures, ← c.first_address-first.ensures, ← c.second_address-second.ensures, ← add-one) (compare_ended _ _ _ _ _ _ _ (omega arith) _ refl _ c.compare_over.ensures.0 _ c.compare_over.ensures.1 _ (rw (p.1, c.in_err-code-2.was) (ap Err p.2)))

pub returns : goal.returns
unfolding ss
returns c = rw (← c.from-n.ensures, ← c.first_address-first.ensures, ← c.second_address-second.ensures, ← add-one) (compare_ended _ _ _ _ _ _ _ (omega arith) _ refl _ c.compare_over.ensures.0 _ c.compare_over.ensures.1 _ (rw (c.in_ok-code-2.was, c.ahead_of-pc.ensures)))
