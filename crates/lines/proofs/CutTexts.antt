-- A text cut at its marks. The digits of numbers and the letters of names are 48 and more; what stands between them, TAB ( ) , ' and
-- LF, is less.
use mathlib.Core.Path.{◌≡◌, refl}
use mathlib.Core.Bool.{Bool, true, false, not}
use mathlib.Core.List.{List, [], ◌∷◌, ◌++◌}
use Prim.Native.Nat.{ℕ, zero, suc, ◌+◌, ◌/◌, ◌%◌, ◌^◌}
use native.Mathlib.Omega.{arith}
use lib.Dec.{eqb, leb, ltb}
use borrow.Author.Tests.{le-leb, leb-true, ne_eqb}
use Rattle.words.specs.Pick.{pick, both}
use Rattle.words.proofs.Tests.{both_true}
use Rattle.printing.specs.Digits.{digit, digits_of, trimmed, decimal_of}
use Rattle.lines.specs.Line.{hex_bytes}

-- whether all characters pass a test
abbrev pub all : (ℕ → Bool) → List ℕ → Bool
all p [] = true
all p (c ∷ cs) = both (p c) (all p cs)

pub all_append : (p : ℕ → Bool) (x y : List ℕ) → all p x ≡ true → all p y ≡ true → all p (x ++ y) ≡ true
all_append p [] y h k = k
all_append p (c ∷ x) y h k = let b = both_true (p c) (all p x) h in rw b.0 (all_append p x y b.1 k)

-- the words of a text: each is ended by a mark, which is a character that fails the test
abbrev grown : ℕ → List (List ℕ) → List (List ℕ)
grown c [] = []
grown c (w ∷ ws) = (c ∷ w) ∷ ws

pub cut : (ℕ → Bool) → List ℕ → List (List ℕ)
cut p [] = []
cut p (c ∷ cs) = let rest = cut p cs in pick (p c) (grown c rest) ([] ∷ rest)

pub cut_none : (p : ℕ → Bool) → cut p [] ≡ []
unfolding cut
cut_none p = refl

pub cut_word : (p : ℕ → Bool) (w : List ℕ) (m : ℕ) (r : List ℕ) → all p w ≡ true → p m ≡ false → cut p (w ++ m ∷ r) ≡ w ∷ cut p r
unfolding cut
cut_word p [] m r h k = rw k
cut_word p (c ∷ w) m r h k =
    let b = both_true (p c) (all p w) h in
    rw (b.0, cut_word p w m r b.1 k)

abbrev pub high : ℕ → Bool
high c = leb 48 c

high_digit : (d : ℕ) → high (digit d) ≡ true
unfolding digit
high_digit d = go (ltb d 10)
  where
    go : (t : Bool) → high (pick t (48 + d) (55 + d)) ≡ true
    go true = le-leb 48 (48 + d) (omega arith)
    go false = le-leb 48 (55 + d) (omega arith)

pub high_digits : (base k v : ℕ) → all high (digits_of base k v) ≡ true
unfolding digits_of
high_digits base zero v = refl
high_digits base (suc k) v = rw (high_digit (v / base ^ k % base)) (high_digits base k v)

high_trimmed : (cs : List ℕ) → all high cs ≡ true → all high (trimmed cs) ≡ true
unfolding trimmed
high_trimmed [] h = refl
high_trimmed (c ∷ []) h = h
high_trimmed (c ∷ d ∷ cs) h = go (eqb c 48) (high_trimmed (d ∷ cs) (both_true (high c) (all high (d ∷ cs)) h).1)
  where
    go : (t : Bool) → all high (trimmed (d ∷ cs)) ≡ true → all high (pick t (trimmed (d ∷ cs)) (c ∷ d ∷ cs)) ≡ true
    go true k = k
    go false k = h

pub high_decimal : (v : ℕ) → all high (decimal_of v) ≡ true
unfolding decimal_of
high_decimal v = high_trimmed (digits_of 10 10 v) (high_digits 10 10 v)

pub high_bytes : (bs : List ℕ) → all high (hex_bytes bs) ≡ true
unfolding hex_bytes
high_bytes [] = refl
high_bytes (b ∷ bs) = all_append high (digits_of 16 2 b) (hex_bytes bs) (high_digits 16 2 b) (high_bytes bs)

-- what may stand in a line: LF ends it
abbrev pub in_line : ℕ → Bool
in_line c = not (eqb c 10)

pub high_in_line : (w : List ℕ) → all high w ≡ true → all in_line w ≡ true
high_in_line [] h = refl
high_in_line (c ∷ w) h =
    let b = both_true (high c) (all high w) h in
    let k = leb-true 48 c b.0 in
    rw (ne_eqb c 10 (λ (e : c ≡ 10). omega arith)) (high_in_line w b.1)
