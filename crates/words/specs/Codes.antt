-- The condition codes of document 01, "Rules that catch people".
use Rattle.std.specs.Prelude.{ℕ, eqb, ltb, ℤ, pos}
use Rattle.std.specs.Int.Bits.{bit_and}
use Rattle.std.specs.Int.Signed.{lt_z}
use Rattle.words.specs.Pick.{pick}

-- 0 zero, 1 negative, 2 positive
unfoldable pub sign_code : ℤ → ℕ
sign_code z = pick (lt_z z (pos 0)) 1 (pick (lt_z (pos 0) z) 2 0)

-- 0 equal, 1 first low, 2 first high: of whole numbers, and of bits as they stand
unfoldable pub compare_signed : ℤ → ℤ → ℕ
compare_signed x y = pick (lt_z x y) 1 (pick (lt_z y x) 2 0)

unfoldable pub compare_bits : ℕ → ℕ → ℕ
compare_bits x y = pick (ltb x y) 1 (pick (ltb y x) 2 0)

-- 0 zero, 1 otherwise
unfoldable pub zero_code : ℕ → ℕ
zero_code n = pick (eqb n 0) 0 1

-- Test under Mask (001, L4975-5003): 0 where each chosen bit is zero or none is chosen, 3 where each is one, else 1
unfoldable pub mask_code : ℕ → ℕ → ℕ
mask_code b mask = pick (eqb (bit_and b mask) 0) 0 (pick (eqb (bit_and b mask) mask) 3 1)
