-- The signed shifts over the width. To the right: what the bits stand for is divided downward. To the left: the sign stays; what the bits
-- stand for is multiplied where that fits, and code 3 tells where it does not.
use mathlib.Core.Path.{◌≡◌, refl, sym}
use mathlib.Core.Bool.{Bool, true, false}
use mathlib.Core.Logic.{◌↔◌}
use Prim.Native.Nat.{ℕ, suc, ◌+◌, ◌*◌, ◌-◌, ◌%◌, ◌^◌, ◌≤◌, ◌<◌}
use native.Mathlib.Nat.{mod-eq_of_lt, add-mod_left, mod-mod_of_dvd, dvd-add, dvd_refl, lt_of_le_of_lt, zero-add}
use native.Mathlib.Omega.{arith}
use borrow.Author.Tests.{leb-true, leb-false}
use lib.Dec.{leb}
use lib.IntN.{ℤ, pos, negsuc, ◌*ℤ◌}
use lib.Pow.{pow_pos}
use lib.Signed.{mag, shr_z, mag_shr}
use Rattle.words.specs.declared.Direction.{Direction}
use Rattle.words.specs.declared.Direction.TheVariants.{Left, Right}
use Rattle.words.specs.Pick.{pick}
use Rattle.words.specs.Whole.{signed, kept, overflows}
use Rattle.words.specs.Codes.{sign_code}
use Rattle.words.specs.SignedShifts.{sign_bit, leftward, rightward, shifted_of}
use Rattle.words.proofs.Signs.{is_minus}
use Rattle.words.proofs.SignCodes.{code_small}
use Rattle.words.proofs.Range.{fits, in_range, signed_range}
use Rattle.words.proofs.ReadBack.{signed_kept, kept_below, kept_low, kept_high}
use Rattle.words.proofs.Scaled.{scaled_minus, scaled_bits}
use Rattle.words.proofs.SignBit.{sign_low, sign_high, made_below, made_sign, made_bits}

-- what is left are the bits of a word
pub shifted_below : (d : Direction) (top a n : ℕ) → 0 < top → (shifted_of d top a n).value < top + top
unfolding shifted_of leftward rightward
shifted_below Left top a n p = made_below top a (kept top (signed top a *ℤ pos (2 ^ (n % 64)))) p
shifted_below Right top a n p = kept_below top (shr_z (signed top a) (2 ^ (n % 64))) p

-- ---- to the right

-- what is left stands for what the bits stood for, divided downward by a power of two (Downward says that shr_z is that): it always fits
pub right_is : (top a n : ℕ) → a < top + top → signed top (shifted_of Right top a n).value ≡ shr_z (signed top a) (2 ^ (n % 64))
unfolding shifted_of rightward
right_is top a n h =
    let z = shr_z (signed top a) (2 ^ (n % 64)) in
    let l : mag z < top = lt_of_le_of_lt (mag_shr (signed top a) (2 ^ (n % 64))) (signed_range top a h) in
    signed_kept top z (omega arith) (fits top z l)

-- the code is that of what is left
pub right_code : (top a n : ℕ) → a < top + top → (shifted_of Right top a n).code ≡ sign_code (signed top (shifted_of Right top a n).value)
unfolding shifted_of rightward
right_code top a n h = rw (right_is top a n h)

-- ---- to the left, z being the true value

-- the sign bit stays
pub left_sign : (top a : ℕ) (z : ℤ) → 0 < top → sign_bit top (leftward top a z).value ≡ sign_bit top a
unfolding leftward
left_sign top a z p = made_sign top a (kept top z) p

-- the bits below it are the true value's
pub left_bits : (top a : ℕ) (z : ℤ) → 0 < top → (leftward top a z).value % top ≡ kept top z % top
unfolding leftward
left_bits top a z p = made_bits top a (kept top z) p

-- the code is 3 exactly on overflow
pub left_over : (top a : ℕ) (z : ℤ) → ((leftward top a z).code ≡ 3) ↔ ((leftward top a z).over ≡ true)
unfolding leftward
left_over top a z = go (overflows top z)
  where
    go : (t : Bool) → (pick t 3 (sign_code z) ≡ 3) ↔ (t ≡ true)
    go true = (λ e. refl, λ e. refl)
    go false = (λ e. absurd (omega (arith, code_small z)), λ e. cc)

-- a's sign bit and the low bits of a whole number that fits and has that sign are the word of it
same_word : (top a : ℕ) (z : ℤ) → mag z < top → is_minus z ≡ leb top a → sign_bit top a + kept top z % top ≡ kept top z
same_word top a (pos n) h e =
    let l : a < top = leb-false top a (sym e) in
    let m : n % top ≡ n = mod-eq_of_lt h in
    rw (sign_low top a l, kept_low top n (omega arith), m, zero-add)
same_word top a (negsuc n) h e =
    let l : top ≤ a = leb-true top a (sym e) in
    let k : top + top - suc n ≡ top + (top - suc n) = omega arith in
    let m : (top - suc n) % top ≡ top - suc n = mod-eq_of_lt (omega arith) in
    rw (sign_high top a l, kept_high top n (omega arith), k, add-mod_left, m)

-- the true value being what the bits stand for times m: the bits below the sign go as bits, and those without room are lost
pub left_value : (top a m : ℕ) → 0 < m → a < top + top → (leftward top a (signed top a *ℤ pos m)).value ≡ sign_bit top a + a * m % top
unfolding leftward
left_value top a m p h = rw (scaled_bits top a m p h, mod-mod_of_dvd top (a * m) (dvd-add top (dvd_refl top) (dvd_refl top)))

-- and where it fits, it is what is left
pub left_times : (top a m : ℕ) → 0 < m → a < top + top → overflows top (signed top a *ℤ pos m) ≡ false
    → signed top (leftward top a (signed top a *ℤ pos m)).value ≡ signed top a *ℤ pos m
unfolding leftward
left_times top a m p h e =
    let z = signed top a *ℤ pos m in
    let l = in_range top z (omega arith) e in
    rw (same_word top a z l (scaled_minus top a m p h)) (signed_kept top z (omega arith) e)

-- where nothing overflows, what is left stands for what the bits stood for times a power of two
pub left_fits : (top a n : ℕ) → a < top + top → (shifted_of Left top a n).over ≡ false
    → signed top (shifted_of Left top a n).value ≡ signed top a *ℤ pos (2 ^ (n % 64))
unfolding shifted_of leftward
left_fits top a n h e = left_times top a (2 ^ (n % 64)) (pow_pos (n % 64)) h e

-- and the code is that of what is left
pub left_code : (top a n : ℕ) → a < top + top → (shifted_of Left top a n).over ≡ false
    → (shifted_of Left top a n).code ≡ sign_code (signed top (shifted_of Left top a n).value)
unfolding shifted_of leftward
left_code top a n h e = rw (left_fits top a n h e, e)
