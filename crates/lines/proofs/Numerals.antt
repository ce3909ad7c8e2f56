-- Numerals read back: the value of a number's digits is the number.
use mathlib.Core.Path.{◌≡◌, refl, ap, ◌∙◌}
use mathlib.Core.Bool.{Bool, true, false}
use mathlib.Core.List.{List, [], ◌∷◌}
use Prim.Native.Nat.{ℕ, zero, suc, ◌+◌, ◌-◌, ◌*◌, ◌/◌, ◌%◌, ◌^◌, ◌<◌}
use native.Mathlib.Omega.{arith}
use native.Mathlib.Nat.{mod-add-div, div-div-eq-div-mul, pow-suc, pow-zero, mod-one, mod-eq_of_lt}
use lib.Dec.{eqb, ltb}
use borrow.Author.Tests.{ltb-true, ltb-false, lt-ltb, le-ltb, eqb-true}
use Rattle.words.specs.Pick.{pick}
use Rattle.printing.specs.Digits.{digit, digits_of, trimmed, decimal_of}

-- what a digit's character stands for
unfoldable pub undigit : ℕ → ℕ
undigit c = pick (ltb c 58) (c - 48) (c - 55)

pub undigit_digit : (d : ℕ) → undigit (digit d) ≡ d
unfolding undigit digit
undigit_digit d = go (ltb d 10) refl
  where
    go : (t : Bool) → ltb d 10 ≡ t → undigit (pick t (48 + d) (55 + d)) ≡ d
    go true e = let h = ltb-true d 10 e in rw (lt-ltb (48 + d) 58 (omega arith)) (omega arith)
    go false e = let h = ltb-false d 10 e in rw (le-ltb (55 + d) 58 (omega arith)) (omega arith)

-- the value of digits behind others whose value is n
unfoldable pub value_from : ℕ → ℕ → List ℕ → ℕ
value_from base n [] = n
value_from base n (c ∷ cs) = value_from base (n * base + undigit c) cs

abbrev pub value : ℕ → List ℕ → ℕ
value base cs = value_from base 0 cs

-- one digit more: v to the modulus b ^ (k + 1), where p is b ^ k
one_more_lem : (v b p : ℕ) → v % (p * b) ≡ v / p % b * p + v % p
one_more_lem v b p =
    let q : v / p / b ≡ v / (p * b) = div-div-eq-div-mul v p b in
    omega (arith, mod-add-div v (p * b), mod-add-div v p, ap (λ (n : ℕ). n * p) (mod-add-div (v / p) b), ap (λ (n : ℕ). b * n * p) q)

digits_from : (base n k v : ℕ) → value_from base n (digits_of base k v) ≡ n * base ^ k + v % base ^ k
unfolding value_from digits_of
digits_from base n zero v = rw (pow-zero, mod-one) (omega arith)
digits_from base n (suc k) v =
    let d = v / base ^ k % base in
    ap (λ (m : ℕ). value_from base (n * base + m) (digits_of base k v)) (undigit_digit d) ∙ digits_from base (n * base + d) k v
    ∙ rw (pow-suc, one_more_lem v base (base ^ k)) (omega arith)

pub digits_value : (base k v : ℕ) → value base (digits_of base k v) ≡ v % base ^ k
digits_value base k v = digits_from base 0 k v ∙ omega arith

-- a leading zero adds nothing
trimmed_value : (cs : List ℕ) → value 10 (trimmed cs) ≡ value 10 cs
unfolding trimmed value_from undigit
trimmed_value [] = refl
trimmed_value (c ∷ []) = refl
trimmed_value (c ∷ d ∷ cs) = go (eqb c 48) refl (trimmed_value (d ∷ cs))
  where
    go : (t : Bool) → eqb c 48 ≡ t → value 10 (trimmed (d ∷ cs)) ≡ value 10 (d ∷ cs)
        → value 10 (pick t (trimmed (d ∷ cs)) (c ∷ d ∷ cs)) ≡ value 10 (c ∷ d ∷ cs)
    go true e h = rw (eqb-true c 48 e) h
    go false e h = refl

pub decimal_value : (v : ℕ) → v < 10 ^ 10 → value 10 (decimal_of v) ≡ v
unfolding decimal_of
decimal_value v h = trimmed_value (digits_of 10 10 v) ∙ digits_value 10 10 v ∙ mod-eq_of_lt h
