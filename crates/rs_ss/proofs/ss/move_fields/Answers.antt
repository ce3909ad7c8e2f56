use Rattle.std.proofs.lemmas.Result.{err_from_is_err_and}
use native.Mathlib.Omega.{arith}
use native.Mathlib.Numerals.{add-one}
use mathlib.Core.Path.{refl, sym, ◌∙◌, ap}
use Rattle.std.specs.Prelude.{Err}
use Rattle.pages.specs.declared.Access.TheVariants.{Store}
use Rattle.pages.proofs.ReachLaws.{reach_inside}
use Rattle.fields.proofs.Pieces.{room}
use Rattle.machine.specs.Ss.{ss}
use Rattle.rs_ss.proofs.Ways.{first_ended, move_ended, move_quick, marked_both}
use Rattle.rs_ss.proofs.ss.move_fields.Goals as goal

pub returns-in_err-there : goal.returns-in_err-there
unfolding ss
returns-in_err-there c = let p = err_from_is_err_and c.from_residual.result c.from_residual.ensures.1 in rw (p.1, ← c.from-n.ensures, ← c.first_address-to.ensures, ← c.second_address-from.ensures, ← add-one) (first_ended _ _ _ _ _ _ _ (omega arith) Store tt _ _ c.look_up.ensures _ c.in_err-there.was _ p.2)

pub move_field-requires : goal.move_field-requires
move_field-requires c = omega arith

pub returns-in_err-move_field : goal.returns-in_err-move_field
unfolding ss
returns-in_err-move_field c = let p = err_from_is_err_and c.from_residual-in_err-move_field.result c.from_residual-in_err-move_field.ensures.1 in rw (← c.from-n.ensures, ← c.first_address-to.ensures, ← c.second_address-from.ensures, ← add-one) (move_ended _ _ _ _ _ _ _ (omega arith) _ c.move_field.ensures.0 _ _ c.move_field.ensures.1 _ (rw (p.1, c.in_err-move_field.was) (ap Err p.2)))

pub returns-in_default : goal.returns-in_default
unfolding ss
returns-in_default c = rw (← c.from-n.ensures, ← c.first_address-to.ensures, ← c.second_address-from.ensures, ← add-one) (move_ended _ _ _ _ _ _ _ (omega arith) _ c.move_field.ensures.0 _ _ c.move_field.ensures.1 _ (rw (c.in_ok-move_field.was, c.ahead_of-pc.ensures)))

pub move_flat-requires : goal.move_flat-requires
move_flat-requires c = (omega arith, room _ _ _ _ (reach_inside _ _ _ _ _ _ (sym c.look_up.ensures ∙ c.in_ok-there.was)) c.if-n-there.true, room _ _ _ _ (reach_inside _ _ _ _ _ _ (sym c.look_up-2.ensures ∙ c.in-Ok.is)) c.if-n-here.true)

pub returns-then-n-here : goal.returns-then-n-here
unfolding ss
returns-then-n-here c = rw (← c.from-n.ensures, ← c.first_address-to.ensures, ← c.second_address-from.ensures, ← add-one) (move_quick _ _ _ _ _ _ _ (omega arith) _ c.look_up-2.ensures _ _ _ _ c.in-Ok.is c.if-n-there.true c.if-n-here.true _ _ refl refl _ c.in_ok-there.was _ c.ahead_of-pc.ensures c.look_up.ensures _ _ c.move_flat.ensures (marked_both _ _ _ _ _ c.mark.ensures c.mark-then-n-here.ensures))

pub move_over-requires : goal.move_over-requires
move_over-requires c = (omega arith, sym c.look_up.ensures ∙ c.in_ok-there.was, sym c.look_up-2.ensures ∙ c.in-Ok.is)

pub returns-in_err-move_over : goal.returns-in_err-move_over
unfolding ss
returns-in_err-move_over c = let p = err_from_is_err_and c.from_residual-in_err-move_over.result c.from_residual-in_err-move_over.ensures.1 in rw (← c.from-n.ensures, ← c.first_address-to.ensures, ← c.second_address-from.ensures, ← add-one) (move_ended _ _ _ _ _ _ _ (omega arith) _ c.move_over.ensures.0 _ _ c.move_over.ensures.1 _ (rw (p.1, c.in_err-move_over.was) (ap Err p.2)))

pub returns : goal.returns
unfolding ss
returns c = rw (← c.from-n.ensures, ← c.first_address-to.ensures, ← c.second_address-from.ensures, ← add-one) (move_ended _ _ _ _ _ _ _ (omega arith) _ c.move_over.ensures.0 _ _ c.move_over.ensures.1 _ (rw (c.in_ok-move_over.was, c.ahead_of-pc.ensures)))
