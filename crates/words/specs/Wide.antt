-- Multiply and divide: whole numbers that need a pair of registers. A double word of 64 bits is two words, the left one in the even
-- register; its only sign bit is the leftmost (001, L3272).
use Rattle.std.specs.Prelude.{Result, Ok, Err, List, [], ◌∷◌, ℕ, ◌+◌, ◌*◌, ◌%◌, eqb, ℤ, ◌*ℤ◌}
use Rattle.std.specs.Int.Signed.{quot_z, rem_z}
use Rattle.words.specs.declared.PairOp.{PairOp}
use Rattle.words.specs.declared.PairOp.TheVariants.{Multiply, Divide}
use Rattle.words.specs.declared.DivideError.{DivideError}
use Rattle.words.specs.Pick.{pick, either}
use Rattle.words.specs.Said.{Said, says}
use Rattle.words.specs.Whole.{word_top, double_top, signed, kept, overflows}

-- the double word of two words
abbrev pub joined : ℕ → ℕ → ℕ
joined left right = left * 4294967296 + right

-- the product of two words (it always fits: proofs/Products, product_is)
unfoldable pub product_of : ℕ → ℕ → ℕ
product_of a b = kept double_top (signed word_top a *ℤ signed word_top b)

-- a double word divided by a word: the quotient cut toward zero, the remainder with the dividend's sign or zero (001, L3932-3933; that
-- these are so, and no others: proofs/Division, Divides)
unfoldable pub quotient_of : ℕ → ℕ → ℤ
quotient_of w b = quot_z (signed double_top w) (signed word_top b)

unfoldable pub remainder_of : ℕ → ℕ → ℤ
remainder_of w b = rem_z (signed double_top w) (signed word_top b)

-- the answer: the double word for the pair, or that no quotient fits
abbrev pub Paired : Type 0
Paired = Result ℕ DivideError

abbrev pub no_quotient : Paired
no_quotient = Err (record {})

-- what is made of the pair's double word w and the second operand b
unfoldable pub pair_of : PairOp → ℕ → ℕ → Paired
-- MR, M: L3837. The multiplicand is the right word; the left one is not looked at
pair_of Multiply w b = Ok (product_of (w % 4294967296) b)
-- DR, D: L3901. The remainder goes to the left, the quotient to the right. An error where the divisor is zero (L1084) or no word stands
-- for the quotient
pair_of Divide w b =
    pick (either (eqb b 0) (overflows word_top (quotient_of w b))) no_quotient
    (Ok (joined (kept word_top (remainder_of w b)) (kept word_top (quotient_of w b))))

-- the answer's cases in the papers' terms: the double word, or document 02's number 8
abbrev pub paired_says : Paired → Said (List ℕ)
paired_says (Ok v) = says 0 (v ∷ [])
paired_says (Err e) = says 8 []
