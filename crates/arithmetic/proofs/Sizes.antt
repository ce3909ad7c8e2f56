-- A number's size and sign as the code finds and uses them: the size of what bits stand for, and what is kept of a size with a sign.
use mathlib.Core.Path.{◌≡◌, sym, ap, ◌∙◌}
use mathlib.Core.Bool.{Bool, true, false}
use Prim.Native.Nat.{ℕ, zero, suc, ◌+◌, ◌%◌, ◌<◌}
use native.Mathlib.Omega.{arith}
use borrow.Author.Tests.{lt-ltb, le-ltb}
use mir.Syntax.{w32, w64}
use mir.Val.{to_z as cast_signed}
use lib.IntN.{ℤ, pos, neg_ℤ, nat_abs}
use Rattle.words.specs.Whole.{word_top, double_top, signed, kept}
use Rattle.words.proofs.Choice.{by_order}
use Rattle.words.proofs.Signs.{sized}
use Rattle.words.proofs.Range.{signed_low, signed_high, nonzero}
use Rattle.words.proofs.ReadBack.{kept_low}
use Rattle.words.proofs.Products.{right_half_lem}

-- what a word or a double word stands for is what the code reads in it
pub read_word : (a : ℕ) → a < 4294967296 → cast_signed w32 a ≡ signed word_top a
read_word a h =
    by_order a 2147483648
    (λ l. rw (lt-ltb a 2147483648 l, signed_low word_top a l))
    (λ l. rw (le-ltb a 2147483648 l, signed_high word_top a l h))

pub read_double : (a : ℕ) → a < 18446744073709551616 → cast_signed w64 a ≡ signed double_top a
read_double a h =
    by_order a 9223372036854775808
    (λ l. rw (lt-ltb a 9223372036854775808 l, signed_low double_top a l))
    (λ l. rw (le-ltb a 9223372036854775808 l, signed_high double_top a l h))

-- what a number other than zero stands for has a size above zero
pub size_above : (top b y : ℕ) → b < top + top → (b ≡ 0 → ⊥) → y ≡ nat_abs (signed top b) → 0 < y
size_above top b y l n e = rw e (nonzero top b l (omega arith))

-- a size with a sign: r with the size comes to nothing, or the size itself
module _ (size : ℕ) (minus : Bool) (h : size < 18446744073709551616) where
  pub kept_minus : (r : ℕ) → minus ≡ true → r < 18446744073709551616 → (r + size) % 18446744073709551616 ≡ 0
      → r ≡ kept double_top (sized minus size)
  unfolding kept
  kept_minus r s l e = rw s (go size h e)
    where
      go : (n : ℕ) → n < 18446744073709551616 → (r + n) % 18446744073709551616 ≡ 0 → r ≡ kept double_top (neg_ℤ (pos n))
      go zero k e = omega arith
      go (suc n) k e = omega arith

  pub kept_plus : minus ≡ false → size ≡ kept double_top (sized minus size)
  kept_plus s = rw (s, kept_low double_top size h)

-- the right half of a double word
pub half_kept : (r : ℕ) (z : ℤ) → r ≡ kept double_top z → r % 4294967296 ≡ kept word_top z
half_kept r z e = ap (λ (n : ℕ). n % 4294967296) e ∙ sym (right_half_lem z)
