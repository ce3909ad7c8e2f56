-- A whole number divided downward by a number (shr_z): it is the quotient times the divisor, and a rest that is not negative and less than
-- the divisor; and no other quotient does.
use mathlib.Core.Path.{◌≡◌, sym, ap, ◌∙◌}
use Prim.Native.Nat.{ℕ, suc, ◌+◌, ◌*◌, ◌-◌, ◌/◌, ◌%◌, ◌<◌}
use native.Mathlib.Nat.{mod-lt, div-add-mod'}
use native.Mathlib.Omega.{arith}
use lib.Arith.{digits_div}
use lib.IntN.{ℤ, pos, negsuc, ◌+ℤ◌, ◌*ℤ◌}
use lib.Signed.{shr_z}
use Rattle.words.proofs.Signs.{short}

-- a whole number is the quotient times the divisor and a rest
pub downward : (z : ℤ) (d : ℕ) → 0 < d → (r : ℕ) × (r < d) × (z ≡ shr_z z d *ℤ pos d +ℤ pos r)
downward (pos a) d h = (a % d, mod-lt a h, ap pos (sym (div-add-mod' a d)))
downward (negsuc a) d h =
    let l = mod-lt a h in
    let e = div-add-mod' a d in
    let n : a ≡ suc (a / d) * d - suc (d - suc (a % d)) = omega arith in
    (d - suc (a % d), omega arith, ap negsuc n ∙ sym (short (suc (a / d) * d) (d - suc (a % d)) (omega arith)))

-- no other quotient does
pub only_downward : (z q : ℤ) (d r : ℕ) → r < d → z ≡ q *ℤ pos d +ℤ pos r → q ≡ shr_z z d
only_downward z (pos k) d r h e = rw e (ap pos (sym (digits_div k h)))
only_downward z (negsuc k) d r h e =
    let n : suc k * d - suc r ≡ k * d + (d - suc r) = omega arith in
    let l : d - suc r < d = omega arith in
    rw (e, short (suc k * d) r (omega arith), n) (ap negsuc (sym (digits_div k l)))
