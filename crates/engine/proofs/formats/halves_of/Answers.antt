use native.Mathlib.Omega.{arith}
use Rattle.engine.proofs.Halfwords.{length_small, halves_one, halves_known}
use Rattle.engine.proofs.formats.halves_of.Goals as goal

pub returns-in_default : goal.returns-in_default
returns-in_default c = halves_one _ _ c.action_of.ensures c.in_default.is

pub overflow_cast-result : goal.overflow_cast-result
overflow_cast-result c = omega (arith, length_small c.in-Some.x _ c.length_of.ensures)

pub returns : goal.returns
returns c = halves_known _ _ c.action_of.ensures _ _ c.in-Some.is c.length_of.ensures
