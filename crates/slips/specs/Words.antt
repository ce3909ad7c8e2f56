-- Slips in the arithmetic of words. Each row is of a function of `words`.
use Rattle.std.specs.Prelude.{ℕ, ◌+◌, ◌-◌, ◌*◌, ◌/◌, ◌%◌, ◌^◌, Bool, not, List, [], ◌∷◌, eqb, ℤ, pos, neg_ℤ, ◌+ℤ◌, ◌-ℤ◌, ◌*ℤ◌}
use Prim.Native.String.{String}
use Rattle.std.specs.Int.Bits.{bit_and}
use Rattle.std.specs.Int.Signed.{lt_z}
use Rattle.words.specs.declared.Alu.{Alu}
use Rattle.words.specs.declared.Res.{Res}
use Rattle.words.specs.declared.Alu.TheVariants.{Complement, Add, Subtract, SubtractLogical, CompareLogical, LowProduct}
use Rattle.words.specs.Pick.{pick, either}
use Rattle.words.specs.Whole.{word_top, signed, kept, spread}
use Rattle.words.specs.Codes.{sign_code, compare_signed, mask_code}
use Rattle.words.specs.Combine.{result_of, signed_result, carried, combine_of, shifted_left}
use Rattle.slips.specs.Row.{Row, row}

-- a logical subtract that adds the complement alone
abbrev without_one : ℕ → ℕ → Res ℕ
without_one a b = carried (a + (4294967295 - b))

-- a signed result whose overflow is told by another test
abbrev result_by : Bool → ℤ → Res ℕ
result_by over z = record { value = kept word_top z; code = pick over 3 (sign_code z); over = over }

-- an add whose first value that does not fit is taken for one that does
abbrev one_late : ℕ → ℕ → Res ℕ
one_late a b =
    let z = signed word_top a +ℤ signed word_top b in
    result_by (either (lt_z z (neg_ℤ (pos word_top))) (lt_z (pos word_top) z)) z

-- a subtract by the manual's words (L3701): it overflows where the result's high-order numeric bit and the carry out of the sign disagree
abbrev garbled : ℕ → ℕ → Res ℕ
garbled a b =
    let sum = a + (4294967295 - b) + 1 in
    result_by (not (eqb (sum / 1073741824 % 2) (sum / 4294967296))) (signed word_top a -ℤ signed word_top b)

-- a complement whose code goes by the word that is kept
abbrev by_sign : ℕ → ℕ → Res ℕ
by_sign a b =
    let v = kept word_top (neg_ℤ (signed word_top b)) in
    result_of v (sign_code (signed word_top v))

-- a logical compare that looks at signs
abbrev signed_compare : ℕ → ℕ → Res ℕ
signed_compare a b = result_of a (compare_signed (signed word_top a) (signed word_top b))

-- a product of MH that tells where its low word is not all of it
abbrev told_product : ℕ → ℕ → Res ℕ
told_product a b = signed_result (signed word_top a *ℤ signed word_top b)

-- a shift by the low five bits
abbrev five_bits : ℕ → ℕ → ℕ
five_bits a n = a * 2 ^ (n % 32) % 4294967296

-- Test under Mask that asks first whether each chosen bit is one
abbrev ones_first : ℕ → ℕ → ℕ
ones_first b mask = pick (eqb (bit_and b mask) mask) 3 (pick (eqb (bit_and b mask) 0) 0 1)

-- a halfword that is widened with zeros
abbrev zeros : ℕ → ℕ
zeros h = h

-- value and code of `arithmetic::combine` for two operands, the code before being 0; and a number that is made of two
abbrev results : String → Alu → (ℕ → ℕ → Res ℕ) → ℕ → ℕ → ℕ → ℕ → Row
results slip op slipped a b one other = row slip (told (combine_of op a b 0)) (told (slipped a b)) one other
  where
    told : Res ℕ → List ℕ
    told r = r.value ∷ r.code ∷ []

abbrev numbers : String → (ℕ → ℕ → ℕ) → (ℕ → ℕ → ℕ) → ℕ → ℕ → ℕ → ℕ → Row
numbers slip right slipped a b one other = row slip (right a b ∷ []) (slipped a b ∷ []) one other

abbrev pub slips : List Row
slips =
    results "subtract logical without its carry" SubtractLogical without_one 5 3 2 1
    ∷ results "overflow of a signed add noticed one value late" Add one_late 0x7fffffff 1 3 2
    ∷ results "overflow of a signed subtract by the manual's garbled test" Subtract garbled 5 3 2 3
    ∷ results "LCR of 80000000 without overflow" Complement by_sign 0 0x80000000 3 1
    ∷ results "a compare signed where it is logical" CompareLogical signed_compare 0x80000000 1 2 1
    ∷ results "MH with overflow" LowProduct told_product 0x7fffffff 2 0 3
    -- arithmetic::shift_left and mask_code
    ∷ numbers "shift amounts of five bits" shifted_left five_bits 1 32 0 1
    ∷ numbers "TM with mask 0 as code 3" mask_code ones_first 0x5a 0 0 3
    -- arithmetic::widen
    ∷ row "LH without its sign" (spread 0x8000 ∷ []) (zeros 0x8000 ∷ []) 0xffff8000 0x8000
    ∷ []
