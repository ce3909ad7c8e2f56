-- Worked cases of document 01, "Checks at the edges" and "Rules that catch people", and a few beside them.
use mathlib.Core.Path.{◌≡◌, refl}
use mathlib.Core.List.{List, [], ◌∷◌, map}
use Prim.Native.Nat.{ℕ}
use Rattle.words.specs.declared.Res.{Res}
use Rattle.words.specs.declared.Alu.TheVariants.{Test, Complement, Positive, Negative, Add, Subtract, Compare}
use Rattle.words.specs.declared.Alu.TheVariants.{AddLogical, SubtractLogical, CompareLogical}
use Rattle.words.specs.Whole.{spread, overflows}
use Rattle.words.specs.Codes.{mask_code, sign_code, compare_signed, compare_bits, zero_code}
use Rattle.words.specs.Combine.{combine_of, signed_result, carried, shifted_left, shifted_right}

-- what the definitions give, and what the document says
pub record Case : Type 0 where
  pub given : List ℕ
  pub said : List ℕ

abbrev pub word_and_code : Res ℕ → ℕ → ℕ → Case
word_and_code r value code = record { given = r.value ∷ r.code ∷ []; said = value ∷ code ∷ [] }

abbrev number : ℕ → ℕ → Case
number n m = record { given = n ∷ []; said = m ∷ [] }

table : List Case
table =
    -- AR, SR
    word_and_code (combine_of Add 0x7FFFFFFF 1 0) 0x80000000 3
    ∷ word_and_code (combine_of Add 0x7FFFFFFE 1 0) 0x7FFFFFFF 2
    ∷ word_and_code (combine_of Add 0x80000000 0x80000000 0) 0 3
    ∷ word_and_code (combine_of Subtract 0x80000000 1 0) 0x7FFFFFFF 3
    ∷ word_and_code (combine_of Subtract 5 5 3) 0 0
    -- LTR, LCR, LPR, LNR
    ∷ word_and_code (combine_of Test 0 0x80000000 0) 0x80000000 1
    ∷ word_and_code (combine_of Complement 0 0x80000000 0) 0x80000000 3
    ∷ word_and_code (combine_of Complement 0 1 0) 0xFFFFFFFF 1
    ∷ word_and_code (combine_of Positive 0 0x80000000 0) 0x80000000 3
    ∷ word_and_code (combine_of Positive 0 0xFFFFFFFF 0) 1 2
    ∷ word_and_code (combine_of Negative 0 0x80000000 0) 0x80000000 1
    ∷ word_and_code (combine_of Negative 0 0 0) 0 0
    -- ALR, SLR: the code tells of the carry
    ∷ word_and_code (combine_of AddLogical 0xFFFFFFFF 1 0) 0 2
    ∷ word_and_code (combine_of AddLogical 0xFFFFFFFF 2 0) 1 3
    ∷ word_and_code (combine_of AddLogical 0 0 3) 0 0
    ∷ word_and_code (combine_of SubtractLogical 7 0 0) 7 3
    ∷ word_and_code (combine_of SubtractLogical 0 0 0) 0 2
    ∷ word_and_code (combine_of SubtractLogical 0 1 0) 0xFFFFFFFF 1
    -- CR, CLR
    ∷ word_and_code (combine_of Compare 0xFFFFFFFF 0 0) 0xFFFFFFFF 1
    ∷ word_and_code (combine_of CompareLogical 0xFFFFFFFF 0 0) 0xFFFFFFFF 2
    -- LH
    ∷ number (spread 0x8000) 0xFFFF8000
    ∷ number (spread 0x7FFF) 0x7FFF
    -- SLL, SRL
    ∷ number (shifted_left 0xFFFFFFFF 32) 0
    ∷ number (shifted_left 0xFFFFFFFF 31) 0x80000000
    ∷ number (shifted_left 0xFFFFFFFF 64) 0xFFFFFFFF
    ∷ number (shifted_right 0xFFFFFFFF 63) 0
    ∷ number (shifted_right 0x80000000 31) 1
    -- TM: no bit chosen, one of two, both
    ∷ number (mask_code 0xFF 0) 0
    ∷ number (mask_code 0x01 0x03) 1
    ∷ number (mask_code 0x07 0x03) 3
    ∷ []

all_right : map (λ (k : Case). k.given) table ≡ map (λ (k : Case). k.said) table
unfolding table combine_of signed_result carried overflows sign_code compare_signed compare_bits zero_code spread mask_code shifted_left shifted_right
all_right = refl
