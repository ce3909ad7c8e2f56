-- What is stored, byte by byte from the pairs of a text of digits.
use mathlib.Core.Path.{◌≡◌, refl}
use mathlib.Core.Bool.{true}
use mathlib.Core.List.{List, [], ◌∷◌}
use Prim.Native.Nat.{ℕ, ◌+◌, ◌-◌, ◌*◌, ◌≤◌, ◌<◌}
use native.Mathlib.Numerals.{add-one}
use native.Mathlib.Omega.{arith}
use lib.Dec.{ltb}
use lib.ListN.{length, get_or, set, take, drop, length-drop}
use lib.Seq.{sets, take_all}
use borrow.Author.Tests.{ltb-true}
use Rattle.words.specs.Pick.{both}
use Rattle.reading.specs.Digits.{digit_of, all_digits, pairs_of}
use Rattle.words.proofs.Tests.{both_true}

-- what stands behind the first two
abbrev pub behind : List ℕ → List ℕ
behind s = take (length s - 2) (drop 2 s)

behind_is : (s : List ℕ) → behind s ≡ drop 2 s
behind_is s = take_all (length s - 2) (drop 2 s) (simp length-drop (omega arith))

pub behind_fits : (s : List ℕ) (at n : ℕ) → 2 ≤ length s → at + length s ≤ n → at + 1 + length (behind s) ≤ n
behind_fits s at n h l = rw (behind_is s) (omega (arith, length-drop 2 s))

two : (a b : ℕ) (bs : List ℕ) → all_digits 16 (a ∷ b ∷ bs) ≡ true → (digit_of a < 16) × (digit_of b < 16) × (all_digits 16 bs ≡ true)
unfolding all_digits
two a b bs e =
    let f = both_true (ltb (digit_of a) 16) (both (ltb (digit_of b) 16) (all_digits 16 bs)) e in
    let g = both_true (ltb (digit_of b) 16) (all_digits 16 bs) f.1 in
    (ltb-true (digit_of a) 16 f.0, ltb-true (digit_of b) 16 g.0, g.1)

pub two_hex : (s : List ℕ) → 2 ≤ length s → all_digits 16 s ≡ true
    → (digit_of (get_or s 0 0) < 16) × (digit_of (get_or s 1 0) < 16) × (all_digits 16 (behind s) ≡ true)
two_hex [] h e = absurd (omega arith)
two_hex (a ∷ []) h e = absurd (omega arith)
two_hex (a ∷ b ∷ bs) h e = rw (behind_is (a ∷ b ∷ bs)) (two a b bs e)

pairs_two : (s : List ℕ) → 2 ≤ length s → pairs_of s ≡ (digit_of (get_or s 0 0) * 16 + digit_of (get_or s 1 0)) ∷ pairs_of (behind s)
unfolding pairs_of
pairs_two [] h = absurd (omega arith)
pairs_two (a ∷ []) h = absurd (omega arith)
pairs_two (a ∷ b ∷ bs) h = rw (behind_is (a ∷ b ∷ bs))

pairs_none : (s : List ℕ) → length s < 2 → pairs_of s ≡ []
unfolding pairs_of
pairs_none [] h = refl
pairs_none (a ∷ []) h = refl
pairs_none (a ∷ b ∷ bs) h = absurd (omega arith)

module _ (all mem s : List ℕ) (at : ℕ) (inv : all ≡ sets mem at (pairs_of s)) where
  pub store_turn : 2 ≤ length s → (b : ℕ) → b ≡ digit_of (get_or s 0 0) * 16 + digit_of (get_or s 1 0) → (mem' : List ℕ) → mem' ≡ set mem at b
      → all ≡ sets mem' (at + 1) (pairs_of (behind s))
  store_turn h b e mem' f = rw (inv, pairs_two s h, f, e, add-one at)

  pub store_done : length s < 2 → mem ≡ all
  store_done h = rw (inv, pairs_none s h)
