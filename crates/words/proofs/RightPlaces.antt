-- The signed right shift place by place: at each place the sign stays, and is copied to the bit on its right; the rightmost bit goes out.
use mathlib.Core.Path.{◌≡◌, sym, ap, ◌∙◌}
use Prim.Native.Nat.{ℕ, zero, suc, ◌+◌, ◌*◌, ◌/◌, ◌%◌, ◌^◌, ◌<◌}
use native.Mathlib.Nat.{div-one, div-div-eq-div-mul, pow-succ', zero-add}
use native.Mathlib.Omega.{arith}
use lib.IntN.{ℤ, pos, negsuc}
use lib.Signed.{shr_z}
use Rattle.words.specs.declared.Direction.TheVariants.{Right}
use Rattle.words.specs.Whole.{signed, kept}
use Rattle.words.specs.SignedShifts.{sign_bit, rightward, shifted_of}
use Rattle.words.proofs.Choice.{by_order}
use Rattle.words.proofs.Range.{signed_low, signed_high}
use Rattle.words.proofs.ReadBack.{kept_signed}
use Rattle.words.proofs.SignBit.{sign_low, sign_high}

-- one place: of a word with the sign bit set, a / 2 has the bit on its right set
unfoldable pub right_place : ℕ → ℕ → ℕ
right_place top a = sign_bit top a + a / 2

-- k places
unfoldable pub right_places : ℕ → ℕ → ℕ → ℕ
right_places top zero a = a
right_places top (suc k) a = right_places top k (right_place top a)

-- one place halves, downward, what the word stands for; and it is a word again
module _ (top a : ℕ) (h : a < top + top) where
  pub one_halves : signed top (right_place top a) ≡ shr_z (signed top a) 2
  unfolding right_place
  one_halves =
      let e = signed_high top (top + a / 2) in
      by_order a top
      (λ l. rw (signed_low top a l, sign_low top a l, zero-add) (signed_low top (a / 2) (omega arith)))
      (λ l. rw (signed_high top a l h, sign_high top a l, e (omega arith) (omega arith)) (ap negsuc (omega arith)))

  pub one_below : right_place top a < top + top
  unfolding right_place
  one_below = by_order a top (λ l. omega (arith, sign_low top a l)) (λ l. omega (arith, sign_high top a l))

shr_one : (z : ℤ) → shr_z z 1 ≡ z
shr_one (pos n) = ap pos (div-one n)
shr_one (negsuc n) = ap negsuc (div-one n)

-- divided downward by a product: by one factor, then by the other
shr_shr : (z : ℤ) (m n : ℕ) → shr_z (shr_z z m) n ≡ shr_z z (m * n)
shr_shr (pos a) m n = ap pos (div-div-eq-div-mul a m n)
shr_shr (negsuc a) m n = ap negsuc (div-div-eq-div-mul a m n)

-- k places are a division by a power of two, downward
right_places_are : (top k a : ℕ) → a < top + top → kept top (shr_z (signed top a) (2 ^ k)) ≡ right_places top k a
unfolding right_places
right_places_are top zero a h = ap (kept top) (shr_one (signed top a)) ∙ kept_signed top a h
right_places_are top (suc k) a h =
    ap (λ (i : ℕ). kept top (shr_z (signed top a) i)) (pow-succ' 2 k)
    ∙ ap (kept top) (sym (shr_shr (signed top a) 2 (2 ^ k)))
    ∙ ap (λ (z : ℤ). kept top (shr_z z (2 ^ k))) (sym (one_halves top a h))
    ∙ right_places_are top k (right_place top a) (one_below top a h)

-- what a right shift leaves is what its places leave: SRA at word_top, SRDA at double_top
pub right_places_lem : (top a n : ℕ) → a < top + top → (shifted_of Right top a n).value ≡ right_places top (n % 64) a
unfolding shifted_of rightward
right_places_lem top a n h = right_places_are top (n % 64) a h
