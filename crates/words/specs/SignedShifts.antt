-- The signed shifts, over the width: `top` is the weight of the sign bit (word_top for SLA and SRA, double_top for SLDA and SRDA), `a` the
-- bits, and the places are the low six bits of n. SLA: 001, L4024, and L3294 on the sign; the pages of the other three are lost.
use Rattle.std.specs.Prelude.{false, ℕ, ◌+◌, ◌%◌, ◌^◌, ltb, ℤ, pos, ◌*ℤ◌}
use Rattle.std.specs.Int.Signed.{shr_z}
use Rattle.words.specs.declared.Direction.{Direction}
use Rattle.words.specs.declared.Direction.TheVariants.{Left, Right}
use Rattle.words.specs.declared.Res.{Res}
use Rattle.words.specs.Pick.{pick}
use Rattle.words.specs.Whole.{signed, kept, overflows}
use Rattle.words.specs.Codes.{sign_code}

-- the sign bit of a, with its weight
unfoldable pub sign_bit : ℕ → ℕ → ℕ
sign_bit top a = pick (ltb a top) 0 top

-- to the left, z being the true value: the sign stays, and of z the bits below the sign; 3 where no such bits stand for z, else by its sign
unfoldable pub leftward : ℕ → ℕ → ℤ → Res ℕ
leftward top a z =
    record { value = sign_bit top a + kept top z % top; code = pick (overflows top z) 3 (sign_code z); over = overflows top z }

-- to the right, z being the true value: it always fits
unfoldable pub rightward : ℕ → ℤ → Res ℕ
rightward top z = record { value = kept top z; code = sign_code z; over = false }

-- the true value: times a power of two, or divided by one, downward
unfoldable pub shifted_of : Direction → ℕ → ℕ → ℕ → Res ℕ
shifted_of Left top a n = leftward top a (signed top a *ℤ pos (2 ^ (n % 64)))
shifted_of Right top a n = rightward top (shr_z (signed top a) (2 ^ (n % 64)))
