use native.Mathlib.Nat.{mod-lt}
use native.Mathlib.Omega.{arith}
use Rattle.printing.proofs.Places.{digit_low, digit_high}
use Rattle.printing.proofs.digits.digit_at.Goals as goal

pub overflow_add-result-else-d-lt10 : goal.overflow_add-result-else-d-lt10
overflow_add-result-else-d-lt10 c = omega (arith, mod-lt c.without.result c.requires.0)

pub overflow_cast-result-else-d-lt10 : goal.overflow_cast-result-else-d-lt10
overflow_cast-result-else-d-lt10 c = omega (arith, mod-lt c.without.result c.requires.0)

pub returns-then-d-lt10 : goal.returns-then-d-lt10
returns-then-d-lt10 c = search digit_low

pub returns-else-d-lt10 : goal.returns-else-d-lt10
returns-else-d-lt10 c = search digit_high
