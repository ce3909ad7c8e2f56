-- What an instruction of two word operands makes of them: the word, the code, and whether a signed result overflowed (in the base
-- overflow shows in the code alone). `a` is the first operand, `b` the second, `cc` the code as it was.
use Rattle.std.specs.Prelude.{false, ℕ, ◌+◌, ◌-◌, ◌*◌, ◌/◌, ◌%◌, ◌^◌, ltb, ℤ, ◌+ℤ◌, ◌-ℤ◌, ◌*ℤ◌, neg_ℤ}
use Rattle.std.specs.Int.Bits.{bit_and, bit_or, bit_xor}
use Rattle.words.specs.declared.Alu.{Alu}
use Rattle.words.specs.declared.Alu.TheVariants.{Load, Test, Complement, Positive, Negative, Add, Subtract, Compare, AddLogical, SubtractLogical, CompareLogical, Bits, LowProduct}
use Rattle.words.specs.declared.Logic.{Logic}
use Rattle.words.specs.declared.Logic.TheVariants.{And, Or, Xor}
use Rattle.words.specs.declared.Res.{Res}
use Rattle.words.specs.Pick.{pick}
use Rattle.words.specs.Whole.{word_top, signed, kept, overflows, magnitude}
use Rattle.words.specs.Codes.{sign_code, compare_signed, compare_bits, zero_code}

-- a word with a code, nothing overflowed
abbrev pub result_of : ℕ → ℕ → Res ℕ
result_of v code = record { value = v; code = code; over = false }

-- a signed result: its low 32 bits; 3 on overflow, else by its sign (001, L3338-3355)
unfoldable pub signed_result : ℤ → Res ℕ
signed_result z =
    record { value = kept word_top z; code = pick (overflows word_top z) 3 (sign_code z); over = overflows word_top z }

-- a logical sum s: its low 32 bits; 0 zero and 1 nonzero without carry, 2 zero and 3 nonzero with (001, L3635-3667)
unfoldable pub carried : ℕ → Res ℕ
carried s = result_of (s % 4294967296) (pick (ltb s 4294967296) 0 2 + zero_code (s % 4294967296))

-- bit by bit
unfoldable pub logic_of : Logic → ℕ → ℕ → ℕ
logic_of And a b = bit_and a b
logic_of Or a b = bit_or a b
logic_of Xor a b = bit_xor a b

unfoldable pub combine_of : Alu → ℕ → ℕ → ℕ → Res ℕ
-- LR, L: L3366. LH: L3398. The code stays
combine_of Load a b cc = result_of b cc
-- LTR: L3425
combine_of Test a b cc = signed_result (signed word_top b)
-- LCR: L3453
combine_of Complement a b cc = signed_result (neg_ℤ (signed word_top b))
-- LPR: L3482
combine_of Positive a b cc = signed_result (magnitude (signed word_top b))
-- LNR: L3510
combine_of Negative a b cc = signed_result (neg_ℤ (magnitude (signed word_top b)))
-- AR, A: L3566. AH: L3603
combine_of Add a b cc = signed_result (signed word_top a +ℤ signed word_top b)
-- SR, S: L3669. SH: L3706
combine_of Subtract a b cc = signed_result (signed word_top a -ℤ signed word_top b)
-- CR, C: L3774. CH: L3807. A compare leaves the first operand as it is
combine_of Compare a b cc = result_of a (compare_signed (signed word_top a) (signed word_top b))
-- ALR, AL: L3635
combine_of AddLogical a b cc = carried (a + b)
-- SLR, SL: L3739. The complement of b, and one, are added
combine_of SubtractLogical a b cc = carried (a + (4294967295 - b) + 1)
-- CLR, CL: L4759
combine_of CompareLogical a b cc = result_of a (compare_bits a b)
-- NR, N: L4803. OR, O: L4863. XR, X: L4919
combine_of (Bits l) a b cc = result_of (logic_of l a b) (zero_code (logic_of l a b))
-- MH: L3872. The product's low 32 bits; nothing tells of the others, and the code stays
combine_of LowProduct a b cc = result_of (kept word_top (signed word_top a *ℤ signed word_top b)) cc

-- SLL: L5297. SRL: L5325. The amount is the low six bits of n
unfoldable pub shifted_left : ℕ → ℕ → ℕ
shifted_left a n = a * 2 ^ (n % 64) % 4294967296

unfoldable pub shifted_right : ℕ → ℕ → ℕ
shifted_right a n = a / 2 ^ (n % 64)
