-- The code of a whole number's sign.
use mathlib.Core.Path.{◌≡◌, sym, ap, ◌∙◌}
use mathlib.Core.Bool.{Bool, true, false}
use Prim.Native.Nat.{ℕ, zero, suc, ◌*◌, ◌<◌}
use native.Mathlib.Nat.{zero-mul, mul-pos}
use native.Mathlib.Omega.{arith}
use borrow.Author.Tests.{lt-ltb, le-ltb}
use lib.IntN.{ℤ, pos, neg_ℤ}
use lib.Signed.{lt_z}
use Rattle.words.specs.Pick.{pick}
use Rattle.words.specs.Codes.{sign_code}
use Rattle.words.proofs.Signs.{neg_pos}

pub code_zero : (n : ℕ) → n ≡ 0 → 0 ≡ sign_code (pos n)
unfolding sign_code
code_zero n e = rw e

pub code_above : (n : ℕ) → (n ≡ 0 → ⊥) → 2 ≡ sign_code (pos n)
unfolding sign_code
code_above n h = rw (le-ltb n 0 (omega arith), lt-ltb 0 n (omega arith))

pub code_below : (n : ℕ) → 0 < n → 1 ≡ sign_code (neg_ℤ (pos n))
unfolding sign_code
code_below n h = rw (neg_pos n h)

-- a product by a number that is not zero has the same
pub code_times : (n m : ℕ) → 0 < m → sign_code (pos n) ≡ sign_code (pos (n * m))
code_times zero m h = ap (λ (i : ℕ). sign_code (pos i)) (sym (zero-mul m))
code_times (suc n) m h =
    let l : 0 < suc n * m = mul-pos (omega arith) h in
    sym (code_above (suc n) (omega arith)) ∙ code_above (suc n * m) (omega arith)

-- it is never 3
pub code_small : (z : ℤ) → sign_code z < 3
unfolding sign_code
code_small z = go (lt_z z (pos 0)) (lt_z (pos 0) z)
  where
    go : (t u : Bool) → pick t 1 (pick u 2 0) < 3
    go true u = omega arith
    go false true = omega arith
    go false false = omega arith
