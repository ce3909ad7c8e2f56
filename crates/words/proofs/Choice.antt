-- By cases: of two numbers, the first is below the second, or not; a test holds, or not.
use mathlib.Core.Path.{◌≡◌, refl}
use mathlib.Core.Bool.{Bool, true, false}
use Prim.Native.Nat.{ℕ, ◌≤◌, ◌<◌}
use native.Mathlib.Omega.{arith}
use native.Mathlib.Decide.{dec_lt}
use borrow.Author.Tests.{eq-eqb, ne_eqb, lt-ltb, le-ltb}

pub by_order : {A : Type 0} (a b : ℕ) → (a < b → A) → (b ≤ a → A) → A
by_order {A} a b f g = go (dec_lt a b)
  where
    go : Dec (a < b) → A
    go (yes h) = f h
    go (no h) = g (omega arith)

pub by_test : {A : Type 0} (t : Bool) → (t ≡ true → A) → (t ≡ false → A) → A
by_test true f g = f refl
by_test false f g = g refl

-- what a test in the code says of the same test in a definition
pub ruleset tests = (eq-eqb, ne_eqb, lt-ltb, le-ltb)
