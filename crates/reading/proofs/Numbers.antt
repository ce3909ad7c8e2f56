-- Numbers read digit by digit.
use mathlib.Core.Path.{◌≡◌, refl, ◌∙◌}
use mathlib.Core.Bool.{Bool, true, false, ◌&&◌}
use mathlib.Core.List.{List, [], ◌∷◌}
use Prim.Native.Nat.{ℕ, suc, ◌+◌, ◌*◌, ◌^◌, ◌≤◌, ◌<◌}
use native.Mathlib.Numerals.{add-one}
use native.Mathlib.Nat.{mul-le-mul_left, pow-suc, add-zero, zero-add}
use native.Mathlib.Omega.{arith}
use lib.Dec.{eqb, leb, ltb}
use lib.ListN.{length, get_or, drop, drop_of_length-le}
use lib.Seq.{drop-cons}
use borrow.Author.Tests.{le-leb, lt-leb, eq-eqb, ltb-true, eqb-true, leb-true, leb-false}
use Rattle.words.specs.Pick.{pick, both}
use Rattle.reading.specs.Digits.{digit_of, all_digits, value_after, value_of, is_hex}
use Rattle.std.proofs.Common.{Option, Some, None}
use Rattle.std.specs.List.{list_all}
use Rattle.std.specs.Option.{is_some}
use Rattle.std.proofs.lemmas.List.Recursion.{same_from_clauses}
use Rattle.words.proofs.Tests.{both_true, pick_false}

-- ---- what an option that a test chooses says
pub told_no : (t : Bool) (v : ℕ) (r : Option ℕ) → r ≡ pick t (Some v) None → r ≡ None → t ≡ false
told_no true v r e f = cc
told_no false v r e f = refl

pub told_right : (t : Bool) (v n : ℕ) (r : Option ℕ) → r ≡ pick t (Some v) None → r ≡ Some n → t ≡ true
told_right true v n r e f = refl
told_right false v n r e f = cc

pub told_value : (t : Bool) (v n : ℕ) (r : Option ℕ) → r ≡ pick t (Some v) None → r ≡ Some n → v ≡ n
told_value true v n r e f = cc
told_value false v n r e f = cc

-- ---- a digit
abbrev pub digit_told : ℕ → Option ℕ
digit_told b = pick (ltb (digit_of b) 16) (Some (digit_of b)) None

-- ---- a number up to `last`
pub value_grows : (base n : ℕ) (bs : List ℕ) → 0 < base → n ≤ value_after base n bs
unfolding value_after
value_grows base n [] h = omega arith
value_grows base n (b ∷ bs) h =
    let one : n * 1 ≤ n * base = mul-le-mul_left n h in
    let more : n * base + digit_of b ≤ value_after base (n * base + digit_of b) bs = value_grows base (n * base + digit_of b) bs h in
    omega arith

abbrev pub answer : ℕ → ℕ → ℕ → List ℕ → Option ℕ
answer base last n bs =
    pick (both (all_digits base bs) (leb (value_after base n bs) last)) (Some (value_after base n bs)) None

abbrev pub longer_told : ℕ → ℕ → ℕ → ℕ → Option ℕ
longer_told n b base last =
    pick (both (ltb (digit_of b) base) (leb (n * base + digit_of b) last)) (Some (n * base + digit_of b)) None

pub digits_at : (base : ℕ) (s : List ℕ) (i : ℕ) → i < length s
    → all_digits base (drop i s) ≡ both (ltb (digit_of (get_or s i 0)) base) (all_digits base (drop (i + 1) s))
unfolding all_digits
digits_at base s i h = rw (add-one, drop-cons s i 0)

module _ (base last n : ℕ) (s : List ℕ) (i : ℕ) where
  value_at : i < length s → value_after base n (drop i s) ≡ value_after base (n * base + digit_of (get_or s i 0)) (drop (i + 1) s)
  unfolding value_after
  value_at h = rw (add-one, drop-cons s i 0)

  module _ (inv : answer base last 0 s ≡ answer base last n (drop i s)) where
    pub number_done : length s ≤ i → n ≤ last → Some n ≡ answer base last 0 s
    unfolding all_digits value_after
    number_done h k = rw (inv, drop_of_length-le s h, le-leb n last k)

    module _ (h : i < length s) (r : Option ℕ) (f : r ≡ longer_told n (get_or s i 0) base last) where
      abbrev b : ℕ
      b = get_or s i 0

      abbrev more : List ℕ
      more = drop (i + 1) s

      -- what the digits from here on come to
      abbrev value : ℕ
      value = value_after base (n * base + digit_of b) more

      abbrev told_by : Bool → Option ℕ
      told_by t = pick (both (both t (all_digits base more)) (leb value last)) (Some value) None

      turned : answer base last 0 s ≡ told_by (ltb (digit_of b) base)
      turned = rw (inv, digits_at base s i h, value_at h)

      pub number_none : 0 < base → r ≡ None → None ≡ answer base last 0 s
      number_none z k = rw turned (by (ltb (digit_of b) base) (told_no _ _ r f k))
        where
          by : (t : Bool) → both t (leb (n * base + digit_of b) last) ≡ false → None ≡ told_by t
          by true l =
              let grown : n * base + digit_of b ≤ value = value_grows base (n * base + digit_of b) more z in
              let high : last < n * base + digit_of b = leb-false _ _ l in
              let over : last < value = omega arith in
              pick_false (all_digits base more) (leb value last) (Some value) None (lt-leb value last over)
          by false l = refl

      module _ (m : ℕ) (k : r ≡ Some m) where
        told : (ltb (digit_of b) base ≡ true) × (leb (n * base + digit_of b) last ≡ true)
        told = both_true (ltb (digit_of b) base) (leb (n * base + digit_of b) last) (told_right _ _ m r f k)

        sum_is : n * base + digit_of b ≡ m
        sum_is = told_value _ _ m r f k

        pub number_turn : answer base last 0 s ≡ answer base last m (drop (i + 1) s)
        number_turn =
            let l : ltb (digit_of b) base ≡ true = told.0 in
            turned ∙ rw (l, sum_is)

        pub number_within : m ≤ last
        number_within =
            let o : n * base + digit_of b ≤ last = leb-true _ _ told.1 in
            omega (arith, sum_is)

-- ---- hexadecimal numbers
value_below : (k n : ℕ) (bs : List ℕ) → all_digits 16 bs ≡ true → n < 16 ^ k → value_after 16 n bs < 16 ^ (k + length bs)
unfolding value_after all_digits
value_below k n [] e h = rw add-zero h
value_below k n (b ∷ bs) e h =
    let t : (ltb (digit_of b) 16 ≡ true) × (all_digits 16 bs ≡ true) = both_true (ltb (digit_of b) 16) (all_digits 16 bs) e in
    let d : digit_of b < 16 = ltb-true (digit_of b) 16 t.0 in
    let p : 16 ^ suc k ≡ 16 ^ k * 16 = pow-suc 16 k in
    let more : value_after 16 (n * 16 + digit_of b) bs < 16 ^ (suc k + length bs) = value_below (suc k) (n * 16 + digit_of b) bs t.1 (omega arith) in
    let same : suc k + length bs ≡ k + suc (length bs) = omega arith in
    rw same at more

pub hex_below : (k : ℕ) (s : List ℕ) → is_hex k s ≡ true → value_of 16 s < 16 ^ k
unfolding is_hex
hex_below k s e =
    let t : (eqb (length s) k ≡ true) × (all_digits 16 s ≡ true) = both_true (eqb (length s) k) (all_digits 16 s) e in
    let one : 0 < 16 ^ 0 = omega arith in
    let less : value_of 16 s < 16 ^ (0 + length s) = value_below 0 0 s t.1 one in
    let same : 0 + length s ≡ k = zero-add (length s) ∙ eqb-true (length s) k t.0 in
    rw same at less

module _ (k : ℕ) (s : List ℕ) where
  abbrev pub hex_told : Option ℕ
  hex_told = pick (is_hex k s) (Some (value_of 16 s)) None

  pub hex_is : (last : ℕ) (r : Option ℕ) → r ≡ answer 16 last 0 s → length s ≡ k → last + 1 ≡ 16 ^ k → r ≡ hex_told
  unfolding is_hex
  hex_is last r t e f = t ∙ go (all_digits 16 s) refl
    where
      go : (u : Bool) → all_digits 16 s ≡ u → answer 16 last 0 s ≡ hex_told
      go true a =
          let h : is_hex k s ≡ true = unfold is_hex in rw (eq-eqb (length s) k e, a) in
          let b : value_of 16 s < 16 ^ k = hex_below k s h in
          let c : value_of 16 s ≤ last = omega arith in
          unfold is_hex in rw (eq-eqb (length s) k e, a, le-leb (value_of 16 s) last c)
      go false a = unfold is_hex in rw (eq-eqb (length s) k e, a)

pub word_fits : (y : List ℕ) (r : Option ℕ) (w : ℕ) → r ≡ hex_told 4 y → r ≡ Some w → w < 65536
word_fits y r w e f =
    let below : value_of 16 y < 16 ^ 4 = hex_below 4 y (told_right (is_hex 4 y) (value_of 16 y) w r e f) in
    let same : value_of 16 y ≡ w = told_value (is_hex 4 y) (value_of 16 y) w r e f in
    omega arith

-- ---- bytes in hexadecimal
abbrev pub is_digit : ℕ → Bool
is_digit b = is_some (digit_told b)

pub all_digits_is : (s : List ℕ) → list_all is_digit s ≡ all_digits 16 s
unfolding all_digits
all_digits_is s =
    same_from_clauses (list_all is_digit) (all_digits 16) (λ b r. is_digit b && r) refl (λ b bs. refl)
    (λ b bs. by (ltb (digit_of b) 16) (digit_of b) (all_digits 16 bs))
    s
  where
    by : (t : Bool) (d : ℕ) (u : Bool) → both t u ≡ (is_some (pick t (Some d) None) && u)
    by true d u = refl
    by false d u = refl
