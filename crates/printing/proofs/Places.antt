-- Digits of a number: dividing by the base leaves one digit less, and leading zeros.
use mathlib.Core.Path.{◌≡◌, refl, sym, ap, ◌∙◌}
use Prim.Native.Nat.{ℕ, zero, suc, ◌+◌, ◌-◌, ◌/◌, ◌%◌, ◌^◌, ◌≤◌, ◌<◌}
use native.Mathlib.Omega.{arith}
use native.Mathlib.Nat.{div-div-eq-div-mul, pow-succ', pow-zero, div-one, mul_comm}
use native.Mathlib.Numerals.{add-one}
use borrow.Author.Tests.{eq-eqb, ne_eqb, lt-ltb, le-ltb}
use Rattle.printing.specs.Digits.{digit, digits_of, trimmed, decimal_of}

-- a division more
pub divide_turn : (x y base k : ℕ) → y ≡ x / base ^ k → y / base ≡ x / base ^ (k + 1)
divide_turn x y base k h = rw (h, div-div-eq-div-mul, add-one, pow-succ', mul_comm base (base ^ k))

pub divide_none : (x base : ℕ) → x ≡ x / base ^ 0
divide_none x base = rw (pow-zero, div-one)

-- x is the number without its last digits
module _ (x y base : ℕ) (e : x ≡ y) where
  pub digit_low : x % base < 10 → 48 + x % base ≡ digit (y % base)
  unfolding digit
  digit_low h = rw (← e, lt-ltb (x % base) 10 h)

  pub digit_high : 10 ≤ x % base → 65 + (x % base - 10) ≡ digit (y % base)
  unfolding digit
  digit_high h = rw (← e, le-ltb (x % base) 10 h) (omega arith)

-- ---- leading zeros

module _ (v j : ℕ) where
  stop : (digit (v / 10 ^ suc j % 10) ≡ 48 → ⊥) → trimmed (digits_of 10 (suc (suc j)) v) ≡ digits_of 10 (suc (suc j)) v
  unfolding digits_of trimmed
  stop h = rw (ne_eqb (digit (v / 10 ^ suc j % 10)) 48 h)

  pub skip : digit (v / 10 ^ suc j % 10) ≡ 48 → trimmed (digits_of 10 (suc (suc j)) v) ≡ trimmed (digits_of 10 (suc j) v)
  unfolding digits_of trimmed
  skip h = rw (eq-eqb (digit (v / 10 ^ suc j % 10)) 48 h)

one : (v : ℕ) → trimmed (digits_of 10 1 v) ≡ digits_of 10 1 v
unfolding digits_of trimmed
one v = refl

-- d is the first of the digits that are left
module _ (v left d : ℕ) (h : decimal_of v ≡ trimmed (digits_of 10 left v)) (l : 1 < left) (e : d ≡ digit (v / 10 ^ (left - 1) % 10)) where
  pub width_found : (d ≡ 48 → ⊥) → digits_of 10 (left - 1 + 1) v ≡ decimal_of v
  width_found z = ap (λ (m : ℕ). digits_of 10 m v) n ∙ sym (h ∙ go left l e)
    where
      n : left - 1 + 1 ≡ left
      n = omega arith

      go : (k : ℕ) → 1 < k → d ≡ digit (v / 10 ^ (k - 1) % 10) → trimmed (digits_of 10 k v) ≡ digits_of 10 k v
      go zero l e = absurd (omega arith)
      go (suc zero) l e = absurd (omega arith)
      go (suc (suc j)) l e =
          let n : suc (suc j) - 1 ≡ suc j = omega arith in
          stop v j (λ f. z (e ∙ ap (λ (m : ℕ). digit (v / 10 ^ m % 10)) n ∙ f))

  pub width_next : d ≡ 48 → decimal_of v ≡ trimmed (digits_of 10 (left - 1) v)
  width_next z = h ∙ go left l e
    where
      go : (k : ℕ) → 1 < k → d ≡ digit (v / 10 ^ (k - 1) % 10) → trimmed (digits_of 10 k v) ≡ trimmed (digits_of 10 (k - 1) v)
      go zero l e = absurd (omega arith)
      go (suc zero) l e = absurd (omega arith)
      go (suc (suc j)) l e =
          let n : suc (suc j) - 1 ≡ suc j = omega arith in
          skip v j (sym (e ∙ ap (λ (m : ℕ). digit (v / 10 ^ m % 10)) n) ∙ z) ∙ ap (λ (m : ℕ). trimmed (digits_of 10 m v)) (sym n)

-- one digit stays
pub width_end : (v left : ℕ) → decimal_of v ≡ trimmed (digits_of 10 left v) → 1 ≤ left → left ≤ 1 → digits_of 10 1 v ≡ decimal_of v
width_end v left h p l =
    let n : left ≡ 1 = omega arith in
    sym (one v) ∙ ap (λ (m : ℕ). trimmed (digits_of 10 m v)) (sym n) ∙ sym h
