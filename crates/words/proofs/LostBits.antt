-- The overflow of a signed left shift place by place, as the manual tells it (001, L4050): a bit that is unlike the sign goes out at the
-- left-hand end, just right of the sign. `half` is the weight of the bit there, and half + half that of the sign.
use mathlib.Core.Path.{◌≡◌, refl, sym, ap, ◌∙◌}
use mathlib.Core.Bool.{Bool, true, false, not}
use Prim.Native.Nat.{ℕ, zero, suc, ◌+◌, ◌*◌, ◌-◌, ◌/◌, ◌%◌, ◌^◌, ◌≤◌, ◌<◌}
use native.Mathlib.Nat.{mod-lt, div-add-mod', div-div-eq-div-mul, mul_assoc, pow-succ', le-mul_of_pos_right}
use native.Mathlib.Omega.{arith}
use lib.Dec.{eqb}
use lib.IntN.{ℤ, pos, negsuc, neg_ℤ, one, ◌*ℤ◌, *ℤ-one}
use lib.Pow.{pow_pos}
use lib.Signed.{mag}
use Rattle.words.specs.declared.Direction.TheVariants.{Left}
use Rattle.words.specs.Pick.{either}
use Rattle.words.specs.Whole.{signed, overflows}
use Rattle.words.specs.SignedShifts.{leftward, shifted_of}
use Rattle.words.proofs.Choice.{by_test}
use Rattle.words.proofs.Range.{fits, past, out_of_range, signed_low, signed_high}
use Rattle.words.proofs.ReadBack.{fits_signed}
use Rattle.words.proofs.Signs.{neg_product}
use Rattle.words.proofs.Scaled.{negative}
use Rattle.words.proofs.SignBit.{made_below}
use Rattle.words.proofs.ShiftLaws.{left_value, left_times}
use Rattle.words.proofs.LeftPlaces.{one_place}

-- whether the bit that goes out in one place is unlike the sign
unfoldable pub leaves : ℕ → ℕ → Bool
leaves half a = not (eqb (a / half % 2) (a / (half + half) % 2))

-- whether such a bit goes out in one of k places
unfoldable pub lost : ℕ → ℕ → ℕ → Bool
lost half zero a = false
lost half (suc k) a = either (leaves half a) (lost half k (one_place (half + half) a))

-- a product by one factor, then by another
times_times : (z : ℤ) (m n : ℕ) → z *ℤ pos m *ℤ pos n ≡ z *ℤ pos (m * n)
times_times (pos a) m n = ap pos (mul_assoc a m n)
times_times (negsuc a) m n = neg_product (pos (suc a * m)) (pos n) ∙ ap (λ (i : ℕ). neg_ℤ (pos i)) (mul_assoc (suc a) m n)

-- what is past the range stays past it when it is multiplied
grows : (z : ℤ) (m : ℕ) → 0 < m → mag z ≤ mag (z *ℤ pos m)
grows (pos n) m p = le-mul_of_pos_right n p
grows (negsuc n) m p =
    let l : suc n ≤ suc n * m = le-mul_of_pos_right (suc n) p in
    rw (negative n m p) (omega arith)

-- twice what a word stands for, with the word in each fourth of its values
module _ (half a : ℕ) where
  first : a < half → overflows (half + half) (signed (half + half) a *ℤ pos 2) ≡ false
  first l = rw (signed_low (half + half) a (omega arith)) (fits (half + half) (pos (a * 2)) (omega arith))

  second : half ≤ a → a < half + half → overflows (half + half) (signed (half + half) a *ℤ pos 2) ≡ true
  second l h = rw (signed_low (half + half) a h) (past (half + half) (pos (a * 2)) (omega arith) (omega arith))

  third : half + half ≤ a → a < half + half + half → overflows (half + half) (signed (half + half) a *ℤ pos 2) ≡ true
  third l h =
      let n = half + half + (half + half) - suc a in
      rw (signed_high (half + half) a l (omega arith), negative n 2 (omega arith))
      (past (half + half) (negsuc (suc n * 2 - 1)) (omega arith) (omega arith))

  fourth : half + half + half ≤ a → a < half + half + (half + half) → overflows (half + half) (signed (half + half) a *ℤ pos 2) ≡ false
  fourth l h =
      let n = half + half + (half + half) - suc a in
      rw (signed_high (half + half) a (omega arith) h, negative n 2 (omega arith))
      (fits (half + half) (negsuc (suc n * 2 - 1)) (omega arith))

-- one place overflows exactly where the bit that goes out is unlike the sign
pub one_over : (half a : ℕ) → 0 < half → a < half + half + (half + half)
    → overflows (half + half) (signed (half + half) a *ℤ pos 2) ≡ leaves half a
unfolding leaves
one_over half a p h = go (a / half) (mod-lt a p) (div-add-mod' a half) refl
  where
    sign : a / (half + half) ≡ a / half / 2
    sign = ap (λ (n : ℕ). a / n) two ∙ sym (div-div-eq-div-mul a half 2)
      where
        two : half + half ≡ half * 2
        two = omega arith

    go : (k : ℕ) → a % half < half → k * half + a % half ≡ a → a / half ≡ k
        → overflows (half + half) (signed (half + half) a *ℤ pos 2) ≡ not (eqb (a / half % 2) (a / (half + half) % 2))
    go zero l d e = rw (sign, e) (first half a (omega arith))
    go (suc zero) l d e = rw (sign, e) (second half a (omega arith) (omega arith))
    go (suc (suc zero)) l d e = rw (sign, e) (third half a (omega arith) (omega arith))
    go (suc (suc (suc zero))) l d e = rw (sign, e) (fourth half a (omega arith) h)
    go (suc (suc (suc (suc k)))) l d e = absurd (omega arith)

-- where nothing is lost in it, one place doubles what the word stands for
pub one_doubles : (half a : ℕ) → 0 < half → a < half + half + (half + half) → leaves half a ≡ false
    → signed (half + half) (one_place (half + half) a) ≡ signed (half + half) a *ℤ pos 2
unfolding one_place
one_doubles half a p h f =
    ap (signed (half + half)) (sym (left_value (half + half) a 2 (omega arith) h))
    ∙ left_times (half + half) a 2 (omega arith) h (one_over half a p h ∙ f)

-- one place more: the first of them, then the others
module _ (half k a : ℕ) (p : 0 < half) (h : a < half + half + (half + half)) where
  first_out : leaves half a ≡ true → overflows (half + half) (signed (half + half) a *ℤ pos 2 *ℤ pos (2 ^ k)) ≡ true
  first_out t =
      let z = signed (half + half) a *ℤ pos 2 in
      let l = out_of_range (half + half) z (omega arith) (one_over half a p h ∙ t) in
      let g = grows z (2 ^ k) (pow_pos k) in
      past (half + half) (z *ℤ pos (2 ^ k)) (omega arith) (omega arith)

  one_more_lem :
      overflows (half + half) (signed (half + half) (one_place (half + half) a) *ℤ pos (2 ^ k)) ≡ lost half k (one_place (half + half) a)
      → overflows (half + half) (signed (half + half) a *ℤ pos 2 *ℤ pos (2 ^ k)) ≡ lost half (suc k) a
  unfolding lost
  one_more_lem others =
      by_test (leaves half a) (λ t. rw t (first_out t)) (λ f. rw (f, ← one_doubles half a p h f) others)

-- a product by a power of two is past the range exactly where in one of k places a bit goes out that is unlike the sign
lost_is : (half k a : ℕ) → 0 < half → a < half + half + (half + half)
    → overflows (half + half) (signed (half + half) a *ℤ pos (2 ^ k)) ≡ lost half k a
unfolding lost one_place one
lost_is half zero a p h = ap (overflows (half + half)) (*ℤ-one (signed (half + half) a)) ∙ fits_signed (half + half) a h
lost_is half (suc k) a p h =
    ap (λ (i : ℕ). overflows (half + half) (signed (half + half) a *ℤ pos i)) (pow-succ' 2 k)
    ∙ ap (overflows (half + half)) (sym (times_times (signed (half + half) a) 2 (2 ^ k)))
    ∙ one_more_lem half k a p h (lost_is half k (one_place (half + half) a) p (made_below (half + half) a (a * 2) (omega arith)))

-- a left shift overflows exactly there: SLA with half of word_top, SLDA with half of double_top
pub left_lost : (half a n : ℕ) → 0 < half → a < half + half + (half + half)
    → (shifted_of Left (half + half) a n).over ≡ lost half (n % 64) a
unfolding shifted_of leftward
left_lost half a n p h = lost_is half (n % 64) a p h
