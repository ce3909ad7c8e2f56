-- Signed shifts, over the width: `top` is the weight of the sign bit. With the sign bit set, a number is -1 less the complement of the
-- bits below it, top - 1 - (a - top).
use mathlib.Core.Path.{◌≡◌, refl, sym, ap, ◌∙◌, subst}
use mathlib.Core.Bool.{Bool, true, false}
use Prim.Native.Nat.{ℕ, suc, ◌+◌, ◌-◌, ◌*◌, ◌/◌, ◌%◌, ◌^◌, ◌≤◌, ◌<◌}
use native.Mathlib.Nat.{mod-lt, mod-mod_of_dvd, dvd_of_mod-eq-zero, zero-add, div-le_self, div-lt_iff_lt-mul, le-div_iff_mul-le, mul-pos}
use native.Mathlib.Omega.{arith}
use lib.Dec.{ltb, leb, leb-suc-suc}
use lib.IntN.{pos, negsuc, ◌*ℤ◌}
use lib.Pow.{pow_pos}
use Rattle.words.specs.declared.Direction.{Direction}
use Rattle.words.specs.declared.Direction.TheVariants.{Left, Right}
use Rattle.words.specs.declared.Res.{Res}
use Rattle.words.specs.Pick.{pick}
use Rattle.words.specs.Whole.{signed, overflows}
use Rattle.words.specs.Codes.{sign_code}
use Rattle.words.specs.SignedShifts.{sign_bit, leftward, rightward, shifted_of}
use Rattle.words.proofs.Differences.{same_order}
use Rattle.words.proofs.SignCodes.{code_times, code_below}
use Rattle.words.proofs.Range.{over_above, over_below, signed_low, signed_high}
use Rattle.words.proofs.ReadBack.{kept_low, kept_high}
use Rattle.words.proofs.SignBit.{sign_low, sign_high}
use Rattle.words.proofs.ShiftLaws.{left_value, shifted_below}

complement_is : (top a : ℕ) → top ≤ a → a < top + top → signed top a ≡ negsuc (top - 1 - (a - top))
complement_is top a h k = rw (signed_high top a h k) (ap negsuc (omega arith))

-- ---- to the left by p: whether the true value fits, and the code of its sign

-- the code divides by p where the definition multiplies
divided_order : (x y p : ℕ) → 0 < p → ltb (x / p) y ≡ ltb x (y * p)
divided_order x y p h = same_order (x / p) y x (y * p) (div-lt_iff_lt-mul h).0 (le-div_iff_mul-le h).0

module _ (top a p : ℕ) (l : 0 < p) where
  fits_low : a < top → ltb ((top - 1) / p) a ≡ overflows top (signed top a *ℤ pos p)
  fits_low h = rw (signed_low top a h) (divided_order (top - 1) a p l ∙ over_above top (a * p) false (omega arith) refl)

  code_low : a < top → sign_code (pos a) ≡ sign_code (signed top a *ℤ pos p)
  code_low h = rw (signed_low top a h) (code_times a p l)

  fits_high : top ≤ a → a < top + top → leb (top / p) (top - 1 - (a - top)) ≡ overflows top (signed top a *ℤ pos p)
  fits_high h k =
      let m = top - 1 - (a - top) in
      rw (complement_is top a h k)
      (sym (leb-suc-suc (top / p) m) ∙ divided_order top (suc m) p l ∙ over_below top (suc m * p) true (omega arith) refl)

  code_high : top ≤ a → a < top + top → 1 ≡ sign_code (signed top a *ℤ pos p)
  code_high h k = rw (signed_high top a h k) (code_below (suc (top + top - suc a) * p) (mul-pos (omega arith) l))

-- ---- what a function returns

module _ (top a n : ℕ) where
  left_is : (v k s : ℕ) (o : Bool) → a < top + top → v ≡ sign_bit top a + a * 2 ^ (n % 64) % top
      → o ≡ overflows top (signed top a *ℤ pos (2 ^ (n % 64))) → s ≡ sign_code (signed top a *ℤ pos (2 ^ (n % 64))) → k ≡ pick o 3 s
      → record { value = v; code = k; over = o } ≡ shifted_of Left top a n
  unfolding shifted_of leftward
  left_is v k s o h e f c g = rw (e, g, f, c, ← left_value top a (2 ^ (n % 64)) (pow_pos (n % 64)) h)

  -- the bits below the sign, of a product that was cut to 64 bits
  cut : 18446744073709551616 % top ≡ 0 → a * 2 ^ (n % 64) % 18446744073709551616 % top ≡ a * 2 ^ (n % 64) % top
  cut d = mod-mod_of_dvd top (a * 2 ^ (n % 64)) (dvd_of_mod-eq-zero top d)

  pub left_low : (s k : ℕ) → 18446744073709551616 % top ≡ 0 → a < top → s ≡ sign_code (pos a)
      → k ≡ pick (ltb ((top - 1) / 2 ^ (n % 64)) a) 3 s
      → record { value = a * 2 ^ (n % 64) % 18446744073709551616 % top; code = k; over = ltb ((top - 1) / 2 ^ (n % 64)) a }
      ≡ shifted_of Left top a n
  left_low s k d h e =
      let p = 2 ^ (n % 64) in
      let l = pow_pos (n % 64) in
      left_is _ k s _ (omega arith) (rw (sign_low top a h, zero-add) (cut d)) (fits_low top a p l h) (e ∙ code_low top a p l h)

  pub left_high : (k : ℕ) → 18446744073709551616 % top ≡ 0 → top ≤ a → a < top + top
      → k ≡ pick (leb (top / 2 ^ (n % 64)) (top - 1 - (a - top))) 3 1
      → record {
        value = top + a * 2 ^ (n % 64) % 18446744073709551616 % top;
        code = k;
        over = leb (top / 2 ^ (n % 64)) (top - 1 - (a - top));
      }
      ≡ shifted_of Left top a n
  left_high k d h j =
      let p = 2 ^ (n % 64) in
      let l = pow_pos (n % 64) in
      left_is _ k 1 _ j (rw (sign_high top a h, cut d)) (fits_high top a p l h j) (code_high top a p l h j)

  pub right_low : (k : ℕ) → a < top → k ≡ sign_code (pos (a / 2 ^ (n % 64)))
      → record { value = a / 2 ^ (n % 64); code = k; over = false } ≡ shifted_of Right top a n
  unfolding shifted_of rightward
  right_low k h e = rw (signed_low top a h, e, kept_low top (a / 2 ^ (n % 64)) (omega (arith, div-le_self a (2 ^ (n % 64)))))

  pub right_high : top ≤ a → a < top + top
      → record { value = top + (top - 1 - (top - 1 - (a - top)) / 2 ^ (n % 64)); code = 1; over = false } ≡ shifted_of Right top a n
  unfolding shifted_of rightward sign_code
  right_high h j =
      let q = (top - 1 - (a - top)) / 2 ^ (n % 64) in
      let l = div-le_self (top - 1 - (a - top)) (2 ^ (n % 64)) in
      let v : top + (top - 1 - q) ≡ top + top - suc q = omega arith in
      rw (complement_is top a h j, kept_high top q (omega arith), v)

-- ---- sizes

pub complement_small : (top d p : ℕ) → (top - 1 - d) / p ≤ top - 1
complement_small top d p = omega (arith, div-le_self (top - 1 - d) p)

pub sum_small : (top a x : ℕ) → top ≤ 9223372036854775808 → a < top + top → top + x % top < 18446744073709551616
sum_small top a x h l =
    let t : 0 < top = omega arith in
    omega (arith, mod-lt x t)

-- a shifted number has as many bits as it had
pub value_small : (top : ℕ) → 0 < top → (to : Direction) (a n : ℕ) (r : Res ℕ) → r ≡ shifted_of to top a n → r.value < top + top
value_small top h to a n r e = subst (λ (s : Res ℕ). s.value < top + top) (sym e) (shifted_below to top a n h)
