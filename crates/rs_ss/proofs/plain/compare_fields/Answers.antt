use Rattle.std.proofs.lemmas.Result.{err_from_is_err_and}
use native.Mathlib.Omega.{arith}
use native.Mathlib.Numerals.{add-one}
use mathlib.Core.Path.{refl, ap}
use Rattle.std.specs.Prelude.{Err}
use Rattle.machine.specs.Ss.{ss}
use Rattle.rs_ss.proofs.Ways.{compare_ended}
use Rattle.rs_ss.proofs.plain.compare_fields.Goals as goal

pub returns-in_err-code : goal.returns-in_err-code
unfolding ss
returns-in_err-code c = let p = err_from_is_err_and c.from_residual.result c.from_residual.ensures.1 in rw (← c.from-n.ensures, ← c.first_address-first.ensures, ← c.second_address-second.ensures, ← add-one) (compare_ended _ _ _ _ _ _ _ (omega arith) _ refl _ c.compare_field.ensures.0 _ c.compare_field.ensures.1 _ (rw (p.1, c.in_err-code.was) (ap Err p.2)))

pub returns : goal.returns
unfolding ss
returns c = rw (← c.from-n.ensures, ← c.first_address-first.ensures, ← c.second_address-second.ensures, ← add-one) (compare_ended _ _ _ _ _ _ _ (omega arith) _ refl _ c.compare_field.ensures.0 _ c.compare_field.ensures.1 _ (rw (c.in_ok-code.was, c.ahead_of-pc.ensures)))
