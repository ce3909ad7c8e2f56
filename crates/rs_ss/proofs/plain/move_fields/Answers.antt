use Rattle.std.proofs.lemmas.Result.{err_from_is_err_and}
use native.Mathlib.Omega.{arith}
use native.Mathlib.Numerals.{add-one}
use mathlib.Core.Path.{ap}
use Rattle.std.specs.Prelude.{Err}
use Rattle.machine.specs.Ss.{ss}
use Rattle.rs_ss.proofs.Ways.{move_ended}
use Rattle.rs_ss.proofs.plain.move_fields.Goals as goal

pub returns-in_err-move_field : goal.returns-in_err-move_field
unfolding ss
returns-in_err-move_field c = let p = err_from_is_err_and c.from_residual.result c.from_residual.ensures.1 in rw (← c.from-n.ensures, ← c.first_address-to.ensures, ← c.second_address-from.ensures, ← add-one) (move_ended _ _ _ _ _ _ _ (omega arith) _ c.move_field.ensures.0 _ _ c.move_field.ensures.1 _ (rw (p.1, c.in_err-move_field.was) (ap Err p.2)))

pub returns : goal.returns
unfolding ss
returns c = rw (← c.from-n.ensures, ← c.first_address-to.ensures, ← c.second_address-from.ensures, ← add-one) (move_ended _ _ _ _ _ _ _ (omega arith) _ c.move_field.ensures.0 _ _ c.move_field.ensures.1 _ (rw (c.in_ok-move_field.was, c.ahead_of-pc.ensures)))
