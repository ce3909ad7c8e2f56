-- The bits of a word: the sign bit, with its weight top, and those below it.
use mathlib.Core.Path.{◌≡◌}
use Prim.Native.Nat.{ℕ, ◌+◌, ◌-◌, ◌%◌, ◌≤◌, ◌<◌}
use native.Mathlib.Nat.{mod-lt, mod-eq_of_lt, mod-mod, mod-eq-sub-mod, add-mod_left, zero-add}
use native.Mathlib.Omega.{arith}
use borrow.Author.Tests.{lt-ltb, le-ltb}
use Rattle.words.specs.SignedShifts.{sign_bit}
use Rattle.words.proofs.Choice.{by_order}

pub sign_low : (top a : ℕ) → a < top → sign_bit top a ≡ 0
unfolding sign_bit
sign_low top a h = rw (lt-ltb a top h)

pub sign_high : (top a : ℕ) → top ≤ a → sign_bit top a ≡ top
unfolding sign_bit
sign_high top a h = rw (le-ltb a top h)

-- a word is its sign bit and the bits below
pub sign_and_bits : (top a : ℕ) → a < top + top → sign_bit top a + a % top ≡ a
sign_and_bits top a h =
    by_order a top
    (λ l. rw (sign_low top a l, mod-eq_of_lt l, zero-add))
    (λ l. rw (sign_high top a l, mod-eq-sub-mod l, mod-eq_of_lt {n = a - top} {m = top} (omega arith)) (omega arith))

-- a word made of a's sign bit and of the low bits of x
module _ (top a x : ℕ) (p : 0 < top) where
  pub made_below : sign_bit top a + x % top < top + top
  made_below =
      by_order a top (λ h. omega (arith, mod-lt x p, sign_low top a h)) (λ h. omega (arith, mod-lt x p, sign_high top a h))

  pub made_sign : sign_bit top (sign_bit top a + x % top) ≡ sign_bit top a
  made_sign =
      by_order a top
      (λ h. rw (sign_low top a h) (sign_low top (0 + x % top) (omega (arith, mod-lt x p))))
      (λ h. rw (sign_high top a h) (sign_high top (top + x % top) (omega arith)))

  pub made_bits : (sign_bit top a + x % top) % top ≡ x % top
  made_bits =
      by_order a top (λ h. rw (sign_low top a h, zero-add) (mod-mod x top)) (λ h. rw (sign_high top a h, add-mod_left) (mod-mod x top))
