-- Numbers on a sheet, from the bytes of their digits.
use Rattle.std.specs.Prelude.{Bool, true, false, not, List, [], ◌∷◌, ℕ, ◌+◌, ◌-◌, ◌*◌, ◌%◌, eqb, leb, ltb, length, get_or}
use Rattle.words.specs.Pick.{pick, both}
use Rattle.words.specs.Ascii.{letter}

-- What a digit counts: 0 to 9, then A to F in upper case. Any other byte is no digit, and counts 16, as many as no base allows.
unfoldable pub digit_of : ℕ → ℕ
digit_of b =
    pick (both (leb (letter "0") b) (leb b (letter "9")))
    (b - letter "0")
    (pick (both (leb (letter "A") b) (leb b (letter "F"))) (b - letter "A" + 10) 16)

-- every byte is a digit of the base
unfoldable pub all_digits : ℕ → List ℕ → Bool
all_digits base [] = true
all_digits base (b ∷ bs) = both (ltb (digit_of b) base) (all_digits base bs)

-- the digits read from the left, after digits that came to n
unfoldable pub value_after : ℕ → ℕ → List ℕ → ℕ
value_after base n [] = n
value_after base n (b ∷ bs) = value_after base (n * base + digit_of b) bs

abbrev pub value_of : ℕ → List ℕ → ℕ
value_of base bs = value_after base 0 bs

-- There is a digit, and a zero is the first of several digits nowhere.
unfoldable pub no_leading_zero : List ℕ → Bool
no_leading_zero bs =
    pick (eqb (length bs) 0)
    false
    (pick (eqb (length bs) 1) true (not (eqb (get_or bs 0 0) (letter "0"))))

-- a decimal number from 0 to `last`
unfoldable pub is_decimal : ℕ → List ℕ → Bool
is_decimal last bs = both (no_leading_zero bs) (both (all_digits 10 bs) (leb (value_of 10 bs) last))

-- a hexadecimal number of k digits
unfoldable pub is_hex : ℕ → List ℕ → Bool
is_hex k bs = both (eqb (length bs) k) (all_digits 16 bs)

-- 1 to 32 bytes, two hexadecimal digits each
unfoldable pub is_bytes : List ℕ → Bool
is_bytes bs =
    both (both (leb 2 (length bs)) (leb (length bs) 64))
    (both (eqb (length bs % 2) 0) (all_digits 16 bs))

-- the bytes that pairs of hexadecimal digits stand for
unfoldable pub pairs_of : List ℕ → List ℕ
pairs_of [] = []
pairs_of (a ∷ []) = []
pairs_of (a ∷ b ∷ bs) = (digit_of a * 16 + digit_of b) ∷ pairs_of bs
