-- The whole numbers that a word stands for, as one bound: those whose `mag` is below the weight of the sign bit. `mag` is n for n and for
-- -(n + 1) (lib.Signed).
use mathlib.Core.Path.{◌≡◌, refl, sym, ap, ◌∙◌}
use mathlib.Core.Bool.{Bool, true, false, not}
use Prim.Native.Nat.{ℕ, zero, suc, ◌+◌, ◌-◌, ◌≤◌, ◌<◌}
use native.Mathlib.Omega.{arith}
use borrow.Author.Tests.{lt-ltb, le-ltb, lt-leb, le-leb, ltb-true, ltb-false, not-true, not-false}
use lib.Dec.{ltb, leb, leb-suc-suc}
use lib.IntN.{ℤ, pos, negsuc, nat_abs}
use lib.Signed.{mag}
use Rattle.words.specs.Pick.{either}
use Rattle.words.specs.Whole.{signed, overflows}
use Rattle.words.proofs.Choice.{by_order}
use Rattle.words.proofs.Differences.{sub_low}
use Rattle.words.proofs.Signs.{is_minus, sized}

either_false : (t : Bool) → either t false ≡ t
either_false true = refl
either_false false = refl

-- n is past t, or it is below the number after t
turned : (t n : ℕ) → ltb t n ≡ not (ltb n (suc t))
turned t n =
    by_order n (suc t)
    (λ l. rw (lt-ltb n (suc t) l, le-ltb t n (omega arith)))
    (λ l. rw (le-ltb n (suc t) l, lt-ltb t n (omega arith)))

-- overflow is a test of `mag`
overflow_is : (top : ℕ) (z : ℤ) → 0 < top → overflows top z ≡ not (ltb (mag z) top)
unfolding overflows
overflow_is zero z h = absurd (omega arith)
overflow_is (suc t) (pos n) h =
    let e : suc t - 1 ≡ t = omega arith in
    rw e (turned t n)
overflow_is (suc t) (negsuc n) h = either_false (ltb t n) ∙ turned t n

-- what a word stands for is in the range
pub fits : (top : ℕ) (z : ℤ) → mag z < top → overflows top z ≡ false
fits top z h = overflow_is top z (omega arith) ∙ ap not (lt-ltb (mag z) top h)

pub in_range : (top : ℕ) (z : ℤ) → 0 < top → overflows top z ≡ false → mag z < top
in_range top z h e = ltb-true (mag z) top (not-false (ltb (mag z) top) (sym (overflow_is top z h) ∙ e))

pub past : (top : ℕ) (z : ℤ) → 0 < top → top ≤ mag z → overflows top z ≡ true
past top z h l = overflow_is top z h ∙ ap not (le-ltb (mag z) top l)

pub out_of_range : (top : ℕ) (z : ℤ) → 0 < top → overflows top z ≡ true → top ≤ mag z
out_of_range top z h e = ltb-false (mag z) top (not-true (ltb (mag z) top) (sym (overflow_is top z h) ∙ e))

-- overflow is a test of the size, by the sign
module _ (top size : ℕ) (minus : Bool) (p : 0 < top) where
  pub over_above : minus ≡ false → ltb (top - 1) size ≡ overflows top (sized minus size)
  over_above s =
      let e : suc (top - 1) ≡ top = omega arith in
      rw (s, overflow_is top (pos size) p) (turned (top - 1) size ∙ ap (λ (n : ℕ). not (ltb size n)) e)

  pub over_below : minus ≡ true → ltb top size ≡ overflows top (sized minus size)
  over_below s = rw s (go size)
    where
      go : (n : ℕ) → ltb top n ≡ overflows top (sized true n)
      go zero = le-ltb top 0 (omega arith) ∙ sym (fits top (pos 0) p)
      go (suc n) = rw (overflow_is top (negsuc n) p) (turned top (suc n) ∙ ap not (leb-suc-suc (suc n) top))

-- a size is one more than `mag` below zero
pub mag_small : (z : ℤ) → mag z ≤ nat_abs z
mag_small (pos n) = omega arith
mag_small (negsuc n) = omega arith

-- the bits with the sign bit reset, and with it set
pub signed_low : (top a : ℕ) → a < top → signed top a ≡ pos a
unfolding signed
signed_low top a h = rw (lt-ltb a top h)

pub signed_high : (top a : ℕ) → top ≤ a → a < top + top → signed top a ≡ negsuc (top + top - suc a)
unfolding signed
signed_high top a h k = rw (le-ltb a top h) (sub_low a (top + top) k)

module _ (top a : ℕ) (h : a < top + top) where
  pub signed_minus : is_minus (signed top a) ≡ leb top a
  signed_minus =
      by_order a top (λ l. rw (signed_low top a l, lt-leb top a l)) (λ l. rw (signed_high top a l h, le-leb top a l))

  pub signed_range : mag (signed top a) < top
  signed_range = by_order a top (λ l. rw (signed_low top a l) l) (λ l. rw (signed_high top a l h) (omega arith))

  pub signed_size : nat_abs (signed top a) ≤ top
  signed_size = by_order a top (λ l. rw (signed_low top a l) (omega arith)) (λ l. rw (signed_high top a l h) (omega arith))

  -- only zero stands for zero
  pub nonzero : 0 < a → 0 < nat_abs (signed top a)
  nonzero p = by_order a top (λ l. rw (signed_low top a l) p) (λ l. rw (signed_high top a l h) (omega arith))
