-- Words and whole numbers, there and back, over the width. `top` is the weight of the sign bit.
use mathlib.Core.Path.{◌≡◌, ap}
use mathlib.Core.Bool.{false}
use Prim.Native.Nat.{ℕ, suc, ◌+◌, ◌-◌, ◌<◌}
use native.Mathlib.Nat.{mod-lt, mod-eq_of_lt}
use native.Mathlib.Omega.{arith}
use lib.IntN.{ℤ, pos, negsuc}
use lib.Signed.{mag}
use Rattle.words.specs.Whole.{signed, kept, overflows}
use Rattle.words.proofs.Choice.{by_order}
use Rattle.words.proofs.Range.{fits, in_range, signed_low, signed_high, signed_range}

-- what is kept are the bits of a word
pub kept_below : (top : ℕ) (z : ℤ) → 0 < top → kept top z < top + top
unfolding kept
kept_below top (pos n) h = mod-lt n (omega arith)
kept_below top (negsuc n) h = omega arith

-- of a whole number with no more bits than a word: its bits where it is not negative, and where it is
pub kept_low : (top n : ℕ) → n < top + top → kept top (pos n) ≡ n
unfolding kept
kept_low top n h = mod-eq_of_lt h

pub kept_high : (top n : ℕ) → n < top + top → kept top (negsuc n) ≡ top + top - suc n
unfolding kept
kept_high top n h = rw (mod-eq_of_lt h) (omega arith)

-- a whole number that did not overflow is read back from its bits
pub signed_kept : (top : ℕ) (z : ℤ) → 0 < top → overflows top z ≡ false → signed top (kept top z) ≡ z
signed_kept top z h e = back z (in_range top z h e)
  where
    back : (z : ℤ) → mag z < top → signed top (kept top z) ≡ z
    back (pos n) l = rw (kept_low top n (omega arith)) (signed_low top n l)
    back (negsuc n) l =
        rw (kept_high top n (omega arith), signed_high top (top + top - suc n) (omega arith) (omega arith)) (ap negsuc (omega arith))

-- the bits of a word are kept of what it stands for
pub kept_signed : (top a : ℕ) → a < top + top → kept top (signed top a) ≡ a
kept_signed top a h =
    by_order a top
    (λ l. rw (signed_low top a l) (kept_low top a h))
    (λ l. rw (signed_high top a l h, kept_high top (top + top - suc a) (omega arith)) (omega arith))

-- what a word stands for does not overflow it
pub fits_signed : (top a : ℕ) → a < top + top → overflows top (signed top a) ≡ false
fits_signed top a h = fits top (signed top a) (signed_range top a h)
