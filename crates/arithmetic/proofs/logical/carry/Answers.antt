use native.Mathlib.Omega.{arith}
use Rattle.arithmetic.proofs.ByCases.{carry_none, carry_one, zero_small}
use Rattle.arithmetic.proofs.logical.carry.Goals as goal

pub returns-then-sum-lt4294967296 : goal.returns-then-sum-lt4294967296
returns-then-sum-lt4294967296 c = search carry_none

pub overflow_add-zero : goal.overflow_add-zero
overflow_add-zero c = omega (arith, zero_small _ _ c.zero_code-zero.ensures)

pub returns-else-sum-lt4294967296 : goal.returns-else-sum-lt4294967296
returns-else-sum-lt4294967296 c = search carry_one
