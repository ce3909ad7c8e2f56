-- Worked cases of multiply, divide and the signed shifts.
use mathlib.Core.Path.{◌≡◌, refl}
use mathlib.Core.List.{List, [], ◌∷◌, map}
use Prim.Native.Nat.{ℕ}
use Rattle.words.specs.declared.Alu.TheVariants.{LowProduct}
use Rattle.words.specs.declared.PairOp.TheVariants.{Multiply, Divide}
use Rattle.words.specs.declared.Direction.TheVariants.{Left, Right}
use Rattle.words.specs.declared.Res.{Res}
use Rattle.words.specs.Whole.{word_top, double_top, signed, kept, overflows}
use Rattle.words.specs.Codes.{sign_code}
use Rattle.words.specs.Combine.{combine_of}
use Rattle.words.specs.Wide.{Paired, pair_of, paired_says, product_of, quotient_of, remainder_of}
use Rattle.words.specs.SignedShifts.{sign_bit, leftward, rightward, shifted_of}
use Rattle.words.proofs.Cases.{Case, word_and_code}

abbrev answers : Paired → ℕ → List ℕ → Case
answers p number values = record { given = (paired_says p).number ∷ (paired_says p).values; said = number ∷ values }

abbrev shifts : Res ℕ → ℕ → ℕ → Case
shifts s value code = record { given = s.value ∷ s.code ∷ []; said = value ∷ code ∷ [] }

table : List Case
table =
    -- MR: the largest product; the left word is not looked at
    answers (pair_of Multiply 0x80000000 0x80000000) 0 (0x4000000000000000 ∷ [])
    ∷ answers (pair_of Multiply 0x1234567800000003 5) 0 (15 ∷ [])
    ∷ answers (pair_of Multiply 0x7FFFFFFF 0x80000000) 0 (0xC000000080000000 ∷ [])
    ∷ answers (pair_of Multiply 0xFFFFFFFF 1) 0 (0xFFFFFFFFFFFFFFFF ∷ [])
    ∷ answers (pair_of Multiply 0x7FFFFFFF 0x7FFFFFFF) 0 (0x3FFFFFFF00000001 ∷ [])
    -- DR: cut toward zero, the remainder with the dividend's sign
    ∷ answers (pair_of Divide 0xFFFFFFFFFFFFFFF9 2) 0 (0xFFFFFFFFFFFFFFFD ∷ [])
    ∷ answers (pair_of Divide 7 0xFFFFFFFE) 0 (0x00000001FFFFFFFD ∷ [])
    ∷ answers (pair_of Divide 0xFFFFFFFFFFFFFFF9 0xFFFFFFFE) 0 (0xFFFFFFFF00000003 ∷ [])
    -- the least and the greatest quotient with the largest remainder, by divisors of both signs
    ∷ answers (pair_of Divide 0xFFFFFFFE7FFFFFFE 3) 0 (0xFFFFFFFE80000000 ∷ [])
    ∷ answers (pair_of Divide 0x0000000180000002 0xFFFFFFFD) 0 (0x0000000280000000 ∷ [])
    ∷ answers (pair_of Divide 0x000000017FFFFFFF 3) 0 (0x000000027FFFFFFF ∷ [])
    ∷ answers (pair_of Divide 0xFFFFFFFE80000001 0xFFFFFFFD) 0 (0xFFFFFFFE7FFFFFFF ∷ [])
    -- just past them
    ∷ answers (pair_of Divide 0x0000000180000000 3) 8 []
    ∷ answers (pair_of Divide 0xFFFFFFFE80000000 0xFFFFFFFD) 8 []
    ∷ answers (pair_of Divide 0xFFFFFFFE7FFFFFFD 3) 8 []
    ∷ answers (pair_of Divide 0x0000000180000003 0xFFFFFFFD) 8 []
    -- by -1 and by 1. The manual's rule of thumb (001, L3931: a divisor greater in absolute value than the left word) is wrong both ways
    ∷ answers (pair_of Divide 0x0000000080000000 0xFFFFFFFF) 0 (0x0000000080000000 ∷ [])
    ∷ answers (pair_of Divide 0xFFFFFFFF80000000 0xFFFFFFFF) 8 []
    ∷ answers (pair_of Divide 0xFFFFFFFF80000000 1) 0 (0x0000000080000000 ∷ [])
    ∷ answers (pair_of Divide 0x0000000080000000 1) 8 []
    -- the most negative divisor, and the most negative dividend
    ∷ answers (pair_of Divide 0x4000000000000000 0x80000000) 0 (0x0000000080000000 ∷ [])
    ∷ answers (pair_of Divide 0x8000000000000000 0x80000000) 8 []
    ∷ answers (pair_of Divide 0x8000000000000000 0xFFFFFFFF) 8 []
    -- by zero
    ∷ answers (pair_of Divide 1 0) 8 []
    ∷ answers (pair_of Divide 0 0) 8 []
    ∷ answers (pair_of Divide 0 5) 0 (0 ∷ [])
    -- SLA
    ∷ shifts (shifted_of Left word_top 0x40000000 1) 0x00000000 3
    ∷ shifts (shifted_of Left word_top 0xC0000000 1) 0x80000000 1
    ∷ shifts (shifted_of Left word_top 0xFFFFFFFF 31) 0x80000000 1
    ∷ shifts (shifted_of Left word_top 0xFFFFFFFF 32) 0x80000000 3
    ∷ shifts (shifted_of Left word_top 0x80000000 1) 0x80000000 3
    ∷ shifts (shifted_of Left word_top 0x3FFFFFFF 1) 0x7FFFFFFE 2
    ∷ shifts (shifted_of Left word_top 0x00000001 30) 0x40000000 2
    ∷ shifts (shifted_of Left word_top 0x00000001 31) 0x00000000 3
    ∷ shifts (shifted_of Left word_top 0x00000000 63) 0x00000000 0
    ∷ shifts (shifted_of Left word_top 0x12345678 64) 0x12345678 2
    -- SRA
    ∷ shifts (shifted_of Right word_top 0x80000000 31) 0xFFFFFFFF 1
    ∷ shifts (shifted_of Right word_top 0x80000000 63) 0xFFFFFFFF 1
    ∷ shifts (shifted_of Right word_top 0xFFFFFFFF 1) 0xFFFFFFFF 1
    ∷ shifts (shifted_of Right word_top 0x7FFFFFFF 30) 0x00000001 2
    ∷ shifts (shifted_of Right word_top 0x7FFFFFFF 31) 0x00000000 0
    ∷ shifts (shifted_of Right word_top 0x80000000 64) 0x80000000 1
    -- SLDA: by 0 it tests 64 bits
    ∷ shifts (shifted_of Left double_top 0x0000000080000000 0) 0x0000000080000000 2
    ∷ shifts (shifted_of Left double_top 0xFFFFFFFF00000000 0) 0xFFFFFFFF00000000 1
    ∷ shifts (shifted_of Left double_top 0x0000000000000000 0) 0x0000000000000000 0
    ∷ shifts (shifted_of Left double_top 0x0000000000000001 32) 0x0000000100000000 2
    ∷ shifts (shifted_of Left double_top 0x0000000080000000 32) 0x0000000000000000 3
    ∷ shifts (shifted_of Left double_top 0xFFFFFFFF80000000 32) 0x8000000000000000 1
    ∷ shifts (shifted_of Left double_top 0x0000000000000001 62) 0x4000000000000000 2
    ∷ shifts (shifted_of Left double_top 0xFFFFFFFFFFFFFFFF 62) 0xC000000000000000 1
    ∷ shifts (shifted_of Left double_top 0x0000000000000001 63) 0x0000000000000000 3
    ∷ shifts (shifted_of Left double_top 0xFFFFFFFFFFFFFFFF 63) 0x8000000000000000 1
    ∷ shifts (shifted_of Left double_top 0x8000000000000000 1) 0x8000000000000000 3
    -- SRDA
    ∷ shifts (shifted_of Right double_top 0x0000000080000000 0) 0x0000000080000000 2
    ∷ shifts (shifted_of Right double_top 0x8000000000000000 32) 0xFFFFFFFF80000000 1
    ∷ shifts (shifted_of Right double_top 0x8000000000000000 62) 0xFFFFFFFFFFFFFFFE 1
    ∷ shifts (shifted_of Right double_top 0x7FFFFFFFFFFFFFFF 62) 0x0000000000000001 2
    ∷ shifts (shifted_of Right double_top 0x8000000000000000 63) 0xFFFFFFFFFFFFFFFF 1
    ∷ shifts (shifted_of Right double_top 0x7FFFFFFFFFFFFFFF 63) 0x0000000000000000 0
    -- MH: the low 32 bits, the code as it was
    ∷ word_and_code (combine_of LowProduct 3 0xFFFFFFFE 2) 0xFFFFFFFA 2
    ∷ word_and_code (combine_of LowProduct 0x20000 0x7FFF 1) 0xFFFE0000 1
    ∷ word_and_code (combine_of LowProduct 0x7FFFFFFF 0xFFFF8000 3) 0x8000 3
    ∷ word_and_code (combine_of LowProduct 0x80000000 0xFFFF8000 0) 0 0
    ∷ []

all_right : map (λ (k : Case). k.given) table ≡ map (λ (k : Case). k.said) table
unfolding table signed kept pair_of product_of quotient_of remainder_of combine_of shifted_of leftward rightward sign_bit overflows sign_code
all_right = refl
