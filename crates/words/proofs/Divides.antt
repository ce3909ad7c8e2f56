-- Divide in the registers' terms: the pair of words that it leaves is the one that divides, and number 8 comes exactly where none does.
use mathlib.Core.Path.{◌≡◌, refl, ap, ◌∙◌}
use mathlib.Core.Bool.{Bool, true, false}
use mathlib.Core.Logic.{◌↔◌}
use Prim.Native.Nat.{ℕ, ◌/◌, ◌%◌, ◌<◌}
use native.Mathlib.Omega.{arith}
use borrow.Author.Tests.{ne_eqb, eqb-false}
use lib.Dec.{eqb}
use lib.IntN.{nat_abs, ◌+ℤ◌, ◌*ℤ◌}
use lib.Signed.{quot_z, rem_z}
use Rattle.std.specs.Prelude.{Ok, Err}
use Rattle.words.specs.declared.PairOp.TheVariants.{Divide}
use Rattle.words.specs.Pick.{pick, either}
use Rattle.words.specs.Whole.{word_top, double_top, signed, kept, overflows}
use Rattle.words.specs.Wide.{joined, Paired, no_quotient, pair_of, quotient_of, remainder_of}
use Rattle.words.proofs.Range.{fits, mag_small, signed_low, signed_size, nonzero}
use Rattle.words.proofs.ReadBack.{signed_kept, kept_signed, kept_below, fits_signed}
use Rattle.words.proofs.Division.{SameSign, dividend, smaller, same_sign, only}

-- the words q and r are quotient and remainder of the double word w by the word b (001, L3932-3933)
pub record Divides (w b q r : ℕ) : Type 0 where
  pub dividend : signed double_top w ≡ signed word_top q *ℤ signed word_top b +ℤ signed word_top r
  pub smaller : nat_abs (signed word_top r) < nat_abs (signed word_top b)
  pub sign : SameSign (signed word_top r) (signed double_top w)

-- Divide gives a value where neither test stops it
value_when : (s t : Bool) (p : Paired) (v : ℕ) → pick (either s t) no_quotient p ≡ Ok v → (s ≡ false) × (t ≡ false) × (p ≡ Ok v)
value_when true t p v e = (cc, cc, cc)
value_when false true p v e = (refl, cc, cc)
value_when false false p v e = (refl, refl, e)

-- the remainder by a word is a word
remainder_fits : (w b : ℕ) → b < 4294967296 → 0 < nat_abs (signed word_top b) → overflows word_top (remainder_of w b) ≡ false
unfolding remainder_of
remainder_fits w b l p =
    let z = rem_z (signed double_top w) (signed word_top b) in
    let h = smaller (signed double_top w) (signed word_top b) p in
    let k = signed_size word_top b l in
    fits word_top z (omega (arith, mag_small z))

-- the words that are kept of quotient and remainder divide
words_divide : (w b : ℕ) → b < 4294967296 → 0 < nat_abs (signed word_top b) → overflows word_top (quotient_of w b) ≡ false
    → Divides w b (kept word_top (quotient_of w b)) (kept word_top (remainder_of w b))
unfolding quotient_of remainder_of
words_divide w b l p e =
    let z = signed double_top w in
    let d = signed word_top b in
    let eq = signed_kept word_top (quot_z z d) (omega arith) e in
    let er = signed_kept word_top (rem_z z d) (omega arith) (remainder_fits w b l p) in
    record { dividend = rw (eq, er) (dividend z d); smaller = rw er (smaller z d p); sign = rw er (same_sign z d) }

-- the two words of a double word
halves : (v left right : ℕ) → joined left right ≡ v → left < 4294967296 → right < 4294967296
    → (v < 18446744073709551616) × (v % 4294967296 ≡ right) × (v / 4294967296 ≡ left)
halves v left right e l r = omega arith

-- what Divide leaves divides: the quotient is the right word, the remainder the left
pub divided : (w b v : ℕ) → b < 4294967296 → pair_of Divide w b ≡ Ok v
    → (v < 18446744073709551616) × Divides w b (v % 4294967296) (v / 4294967296)
unfolding pair_of
divided w b v l e =
    let q = kept word_top (quotient_of w b) in
    let r = kept word_top (remainder_of w b) in
    let (z, f, s) = value_when (eqb b 0) (overflows word_top (quotient_of w b)) (Ok (joined r q)) v e in
    let j : joined r q ≡ v = cc in
    let m = kept_below word_top (remainder_of w b) (omega arith) in
    let n = kept_below word_top (quotient_of w b) (omega arith) in
    let (k, right, left) = halves v r q j m n in
    let not_zero = eqb-false b 0 z in
    let p : 0 < b = omega arith in
    (k, rw (right, left) (words_divide w b l (nonzero word_top b l p) f))

-- where two words divide, Divide leaves those
pub divides_exactly : (w b q r : ℕ) → q < 4294967296 → r < 4294967296 → Divides w b q r → pair_of Divide w b ≡ Ok (joined r q)
unfolding pair_of quotient_of remainder_of
divides_exactly w b q r m n d =
    let (u, v) = only (signed double_top w) (signed word_top q) (signed word_top b) (signed word_top r) d.dividend d.smaller d.sign in
    rw (ne_eqb b 0 not_zero, ← u, ← v, fits_signed word_top q m, kept_signed word_top q m, kept_signed word_top r n)
  where
    not_zero : b ≡ 0 → ⊥
    not_zero e =
        let s = ap (λ (n : ℕ). nat_abs (signed word_top n)) e ∙ ap nat_abs (signed_low word_top 0 (omega arith)) in
        omega (arith, d.smaller)

-- so number 8 comes exactly where no two words divide
pub error_exactly : (w b : ℕ) → b < 4294967296
    → (pair_of Divide w b ≡ no_quotient) ↔ ((q r : ℕ) → q < 4294967296 → r < 4294967296 → Divides w b q r → ⊥)
error_exactly w b l = (never, λ n. otherwise n (pair_of Divide w b) refl)
  where
    never : pair_of Divide w b ≡ no_quotient → (q r : ℕ) → q < 4294967296 → r < 4294967296 → Divides w b q r → ⊥
    never e q r m n d =
        let f = divides_exactly w b q r m n d in
        let z : ◌≡◌ {A = ℕ} 0 1 = cc in
        omega arith

    otherwise : ((q r : ℕ) → q < 4294967296 → r < 4294967296 → Divides w b q r → ⊥) → (p : Paired) → pair_of Divide w b ≡ p
        → pair_of Divide w b ≡ no_quotient
    otherwise n (Ok v) e =
        let (k, d) = divided w b v l e in
        absurd (n (v % 4294967296) (v / 4294967296) (omega arith) (omega arith) d)
    otherwise n (Err x) e = e
