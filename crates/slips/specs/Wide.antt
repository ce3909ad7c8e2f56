-- Slips in multiply and divide. All rows are of `arithmetic::wide::pair`.
use Rattle.std.specs.Prelude.{Ok, Err, ℕ, ◌-◌, ◌*◌, ◌/◌, ◌%◌, Bool, List, [], ◌∷◌, eqb, leb, ℤ, pos, neg_ℤ, nat_abs, ◌+ℤ◌, ◌-ℤ◌, ◌*ℤ◌}
use Prim.Native.String.{String}
use Rattle.std.specs.Int.Signed.{lt_z, quot_z, rem_z}
use Rattle.words.specs.declared.PairOp.{PairOp}
use Rattle.words.specs.declared.PairOp.TheVariants.{Multiply, Divide}
use Rattle.words.specs.Pick.{pick, either}
use Rattle.words.specs.Whole.{word_top, signed, kept, overflows, magnitude}
use Rattle.words.specs.Wide.{Paired, no_quotient, joined, product_of, quotient_of, remainder_of, pair_of}
use Rattle.slips.specs.Row.{Row, row}

-- a product as if no word had a sign
abbrev without_signs : ℕ → ℕ → Paired
without_signs w b = Ok (w % 4294967296 * b)

-- a product whose multiplicand is the left word
abbrev left_word : ℕ → ℕ → Paired
left_word w b = Ok (product_of (w / 4294967296) b)

-- each word in the other's register
abbrev swapped : PairOp → ℕ → ℕ → Paired
swapped op w b = turned (pair_of op w b)
  where
    turned : Paired → Paired
    turned (Ok v) = Ok (joined (v % 4294967296) (v / 4294967296))
    turned (Err x) = no_quotient

-- a divide by its error, its quotient and its remainder
abbrev divide_by : (ℕ → ℕ → Bool) → (ℕ → ℕ → ℤ) → (ℕ → ℕ → ℤ) → ℕ → ℕ → Paired
divide_by error quotient remainder w b =
    pick (error w b) no_quotient (Ok (joined (kept word_top (remainder w b)) (kept word_top (quotient w b))))

-- the right divide, but the error is another
abbrev erring : (ℕ → ℕ → Bool) → ℕ → ℕ → Paired
erring error = divide_by error quotient_of remainder_of

-- the right divide, but quotient and remainder are others
abbrev giving : (ℕ → ℕ → ℤ) → (ℕ → ℕ → ℤ) → ℕ → ℕ → Paired
giving = divide_by (λ w b. either (eqb b 0) (overflows word_top (quotient_of w b)))

-- a quotient that is too large by its size alone
abbrev by_size : ℕ → ℕ → Bool
by_size w b = either (eqb b 0) (lt_z (pos (word_top - 1)) (magnitude (quotient_of w b)))

-- a quotient that is too large one value late
abbrev one_late : ℕ → ℕ → Bool
one_late w b = either (eqb b 0) (either (lt_z (quotient_of w b) (neg_ℤ (pos word_top))) (lt_z (pos word_top) (quotient_of w b)))

-- the manual's rule of thumb (L3931): the divisor must be greater in absolute value than the dividend's first word
abbrev rule_of_thumb : ℕ → ℕ → Bool
rule_of_thumb w b = leb (nat_abs (signed word_top b)) (nat_abs (signed word_top (w / 4294967296)))

-- zero is a divisor like any other
abbrev zero_too : ℕ → ℕ → Bool
zero_too w b = overflows word_top (quotient_of w b)

-- a remainder with the divisor's sign
abbrev divisors_sign : ℕ → ℕ → ℤ
divisors_sign w b =
    let size = magnitude (remainder_of w b) in
    pick (lt_z (signed word_top b) (pos 0)) (neg_ℤ size) size

-- a quotient cut downward, and what remains then: others than the right ones where remainder and divisor have unlike signs
abbrev unlike : ℕ → ℕ → Bool
unlike w b = lt_z (remainder_of w b *ℤ signed word_top b) (pos 0)

abbrev quotient_below : ℕ → ℕ → ℤ
quotient_below w b = pick (unlike w b) (quotient_of w b -ℤ pos 1) (quotient_of w b)

abbrev remainder_above : ℕ → ℕ → ℤ
remainder_above w b = pick (unlike w b) (remainder_of w b +ℤ signed word_top b) (remainder_of w b)

-- a double word whose right word has a sign of its own
abbrev pub two_signs : ℕ → ℤ
two_signs w = signed word_top (w / 4294967296) *ℤ pos 4294967296 +ℤ signed word_top (w % 4294967296)

abbrev right_sign : ℕ → ℕ → Paired
right_sign = giving (λ w b. quot_z (two_signs w) (signed word_top b)) (λ w b. rem_z (two_signs w) (signed word_top b))

-- number, left word and right word that are made of a double word and a word
abbrev pairs : String → PairOp → (ℕ → ℕ → Paired) → ℕ → ℕ → ℕ → ℕ → Row
pairs slip op slipped w b one other = row slip (told (pair_of op w b)) (told (slipped w b)) one other
  where
    told : Paired → List ℕ
    told (Ok v) = 0 ∷ v / 4294967296 ∷ v % 4294967296 ∷ []
    told (Err x) = 8 ∷ []

abbrev pub slips : List Row
slips =
    -- -2 times 3; 3 times 5, with 7 in the even register
    pairs "a product as if without signs" Multiply without_signs 0xfffffffe 3 0xffffffff 2
    ∷ pairs "the multiplicand taken from the even register" Multiply left_word 0x0000000700000003 5 15 35
    ∷ pairs "a product's halves swapped" Multiply (swapped Multiply) 3 5 0 15
    -- -80000000 and 80000000 by 1
    ∷ pairs "a quotient of exactly -80000000 refused" Divide (erring by_size) 0xffffffff80000000 1 0 8
    ∷ pairs "a quotient of 80000000 let through" Divide (erring one_late) 0x0000000080000000 1 8 0
    ∷ pairs "the manual's rule of thumb refuses a quotient that fits" Divide (erring rule_of_thumb) 0xffffffff80000000 1 0 8
    ∷ pairs "the manual's rule of thumb lets a quotient through that does not fit" Divide (erring rule_of_thumb) 0x0000000080000000 1 8 0
    ∷ pairs "a divide by zero completed" Divide (erring zero_too) 5 0 8 0
    -- -7 by 2
    ∷ pairs "a remainder with the divisor's sign" Divide (giving quotient_of divisors_sign) 0xfffffffffffffff9 2 0xffffffff 1
    ∷ pairs "a quotient cut downward" Divide (giving quotient_below remainder_above) 0xfffffffffffffff9 2 0xffffffff 1
    -- 7 by 2; 80000000 by 2
    ∷ pairs "quotient and remainder in each other's register" Divide (swapped Divide) 7 2 1 3
    ∷ pairs "a sign in the dividend's right word" Divide right_sign 0x0000000080000000 2 0x40000000 0xc0000000
    ∷ []
