-- The signed left shift place by place, as the manual tells it (001, L4049): at each place the bits below the sign move, the sign stays,
-- and a zero comes in on the right.
use mathlib.Core.Path.{◌≡◌, sym, ap, ◌∙◌}
use Prim.Native.Nat.{ℕ, zero, suc, ◌+◌, ◌*◌, ◌/◌, ◌%◌, ◌^◌, ◌<◌}
use native.Mathlib.Nat.{div-add-mod', mul-add-mod_self_right, mul_assoc, mul-one, pow-succ'}
use native.Mathlib.Omega.{arith}
use lib.Pow.{pow_pos}
use Rattle.words.specs.declared.Direction.TheVariants.{Left}
use Rattle.words.specs.SignedShifts.{sign_bit, shifted_of}
use Rattle.words.proofs.SignBit.{sign_and_bits, made_below, made_sign, made_bits}
use Rattle.words.proofs.ShiftLaws.{left_value}

-- one place
unfoldable pub one_place : ℕ → ℕ → ℕ
one_place top a = sign_bit top a + a * 2 % top

-- k places
unfoldable pub places : ℕ → ℕ → ℕ → ℕ
places top zero a = a
places top (suc k) a = places top k (one_place top a)

-- the rest of a product by a rest
mod_times : (t x m : ℕ) → x % t * m % t ≡ x * m % t
mod_times t x m =
    let e : x / t * m * t + x % t * m ≡ x * m = omega (arith, ap (λ (i : ℕ). i * m) (div-add-mod' x t)) in
    sym (ap (λ (i : ℕ). i % t) (sym e) ∙ mul-add-mod_self_right (x / t * m) t (x % t * m))

-- k places are a product by a power of two, the sign apart
places_are : (top k a : ℕ) → 0 < top → a < top + top → places top k a ≡ sign_bit top a + a * 2 ^ k % top
unfolding places one_place
places_are top zero a p h = rw mul-one (sym (sign_and_bits top a h))
places_are top (suc k) a p h =
    let b = sign_bit top a + a * 2 % top in
    let bits : b * 2 ^ k % top ≡ a * 2 ^ suc k % top =
    sym (mod_times top b (2 ^ k))
    ∙ ap (λ (i : ℕ). i * 2 ^ k % top) (made_bits top a (a * 2) p)
    ∙ mod_times top (a * 2) (2 ^ k)
    ∙ ap (λ (i : ℕ). i % top) (mul_assoc a 2 (2 ^ k) ∙ ap (λ (i : ℕ). a * i) (sym (pow-succ' 2 k))) in
    places_are top k b p (made_below top a (a * 2) p)
    ∙ ap (λ (i : ℕ). i + b * 2 ^ k % top) (made_sign top a (a * 2) p)
    ∙ ap (λ (i : ℕ). sign_bit top a + i) bits

-- what a left shift leaves is what its places leave: SLA at word_top, SLDA at double_top
pub left_places : (top a n : ℕ) → a < top + top → (shifted_of Left top a n).value ≡ places top (n % 64) a
unfolding shifted_of
left_places top a n h =
    left_value top a (2 ^ (n % 64)) (pow_pos (n % 64)) h ∙ sym (places_are top (n % 64) a (omega arith) h)
