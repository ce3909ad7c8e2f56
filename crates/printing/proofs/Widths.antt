-- How many digits a number has: below 10 ^ k and not below 10 ^ (k - 1) they are k.
use mathlib.Core.Path.{◌≡◌, refl, sym, ap, ◌∙◌, subst}
use Prim.Native.Nat.{ℕ, zero, suc, ◌+◌, ◌-◌, ◌*◌, ◌/◌, ◌%◌, ◌^◌, ◌≤◌, ◌<◌, ◌∣◌}
use native.Mathlib.Omega.{arith}
use native.Mathlib.Nat.{zero-add, one-mul, mod-lt, mod-eq_of_lt, mod-mod_of_dvd, dvd-mul_left, lt_of_lt_of_le}
use native.Mathlib.Nat.{div-eq_of_lt, div-lt_iff_lt-mul, le-div_iff_mul-le, pow-succ', pow-le-pow_right, one-le-pow}
use native.Mathlib.Decide.{dec_lt}
use lib.Arith.{mod-mul, digits_div}
use lib.Pow.{pow-add}
use Rattle.printing.specs.Digits.{digit, digits_of, trimmed, decimal_of}
use Rattle.printing.proofs.Places.{digit_low, width_found, width_next, width_end}

-- a digit's place
some : (j : ℕ) → 0 < 10 ^ j
some j = one-le-pow j 10 (omega arith)

-- ---- the low digits of a number are its own

low_digit : (v c : ℕ) → 0 < c → v % (10 * c) / c ≡ v / c % 10
low_digit v c h = ap (λ (y : ℕ). y / c) (mod-mul v (omega arith) h) ∙ digits_div (v / c % 10) (mod-lt v h)

same_digit : (v n j : ℕ) → j < n → v % 10 ^ n / 10 ^ j % 10 ≡ v / 10 ^ j % 10
same_digit v n j l =
    sym (low_digit (v % 10 ^ n) (10 ^ j) (some j))
    ∙ ap (λ (y : ℕ). y / 10 ^ j) (mod-mod_of_dvd (10 * 10 ^ j) v parts)
    ∙ low_digit v (10 ^ j) (some j)
  where
    e : n - suc j + suc j ≡ n
    e = omega arith

    parts : 10 * 10 ^ j ∣ 10 ^ n
    parts = subst (λ (m : ℕ). 10 * 10 ^ j ∣ 10 ^ m) e (rw (pow-add, pow-succ') (dvd-mul_left (10 * 10 ^ j) (10 ^ (n - suc j))))

same_digits : (v n k : ℕ) → k ≤ n → digits_of 10 k (v % 10 ^ n) ≡ digits_of 10 k v
unfolding digits_of
same_digits v n zero l = refl
same_digits v n (suc k) l = rw (same_digit v n k l, same_digits v n k (omega arith))

-- ---- a number below 10 ^ k

-- all digits but the last n are zeros that lead
abbrev Last : ℕ → ℕ → Type 0
Last v n = decimal_of v ≡ trimmed (digits_of 10 n v)

few : (v m k : ℕ) → 0 < k → v < 10 ^ k → Last v (m + k) → Last v k
few v zero k p h e = subst (Last v) (zero-add k) e
few v (suc m) k p h e = few v m k p h (subst (Last v) n (width_next v (suc m + k) 48 e (omega arith) none refl))
  where
    n : suc m + k - 1 ≡ m + k
    n = omega arith

    less : v < 10 ^ (suc m + k - 1)
    less = lt_of_lt_of_le h (pow-le-pow_right (omega arith) (omega arith))

    none : 48 ≡ digit (v / 10 ^ (suc m + k - 1) % 10)
    none = sym (ap (λ (q : ℕ). digit (q % 10)) (div-eq_of_lt less) ∙ (unfold digit in refl))

-- the first digit is not zero
leads : (v j : ℕ) → 10 ^ j ≤ v → v < 10 ^ suc j → digit (v / 10 ^ j % 10) ≡ 48 → ⊥
leads v j l h z = omega (arith, first, mod-eq_of_lt below, said ∙ z)
  where
    first : 1 ≤ v / 10 ^ j
    first = (le-div_iff_mul-le (some j)).1 (rw one-mul l)

    below : v / 10 ^ j < 10
    below = (div-lt_iff_lt-mul (some j)).1 (rw (← pow-succ') h)

    said : 48 + v / 10 ^ j % 10 ≡ digit (v / 10 ^ j % 10)
    said = digit_low (v / 10 ^ j) (v / 10 ^ j) 10 refl (mod-lt (v / 10 ^ j) (omega arith))

module _ (v k : ℕ) (p : 0 < k) (q : k ≤ 10) (h : v < 10 ^ k) (f : 1 < k → 10 ^ (k - 1) ≤ v) where
  last : Last v k
  last = few v (10 - k) k p h (subst (Last v) n (unfold decimal_of in refl))
    where
      n : 10 ≡ 10 - k + k
      n = omega arith

  exact : digits_of 10 k v ≡ decimal_of v
  exact = go (dec_lt 1 k)
    where
      long : 1 < k → digits_of 10 (k - 1 + 1) v ≡ decimal_of v
      long l =
          let n : suc (k - 1) ≡ k = omega arith in
          width_found v k (digit (v / 10 ^ (k - 1) % 10)) last l refl (leads v (k - 1) (f l) (rw n h))

      go : Dec (1 < k) → digits_of 10 k v ≡ decimal_of v
      go (yes l) =
          let n : k - 1 + 1 ≡ k = omega arith in
          subst (λ (m : ℕ). digits_of 10 m v ≡ decimal_of v) n (long l)
      go (no l) =
          let n : 1 ≡ k = omega arith in
          subst (λ (m : ℕ). digits_of 10 m v ≡ decimal_of v) n (width_end v k last p (omega arith))

-- the loop's answers, on the way and at its end
module _ (v k : ℕ) (p : 0 < k) (f : 1 < k → 10 ^ (k - 1) ≤ v % 10 ^ 10) where
  pub width_told : k ≤ 10 → v % 10 ^ 10 < 10 ^ k → digits_of 10 k v ≡ decimal_of v
  unfolding decimal_of
  width_told q h = sym (same_digits v 10 k q) ∙ exact (v % 10 ^ 10) k p q h f ∙ ap trimmed (same_digits v 10 10 (omega arith))

  pub width_most : k ≡ 10 → digits_of 10 10 v ≡ decimal_of v
  width_most e = subst (λ (n : ℕ). digits_of 10 n v ≡ decimal_of v) e (width_told (omega arith) (rw e (mod-lt v (omega arith))))
