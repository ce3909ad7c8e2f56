-- Numbers as text, a character to a digit.
use Rattle.std.specs.Prelude.{List, [], ◌∷◌, ℕ, zero, suc, ◌+◌, ◌/◌, ◌%◌, ◌^◌, eqb, ltb}
use Rattle.words.specs.Pick.{pick}

-- a digit's character: 0 to 9, then A to F (0 is 48 and A is 65)
unfoldable pub digit : ℕ → ℕ
digit d = pick (ltb d 10) (48 + d) (55 + d)

-- the low k digits of v to a base, most significant first
unfoldable pub digits_of : ℕ → ℕ → ℕ → List ℕ
digits_of base zero v = []
digits_of base (suc k) v = digit (v / base ^ k % base) ∷ digits_of base k v

-- the low k hex digits of v
abbrev pub hex_of : ℕ → ℕ → List ℕ
hex_of k v = digits_of 16 k v

-- without the zeros that lead; the last digit stays
unfoldable pub trimmed : List ℕ → List ℕ
trimmed [] = []
trimmed (d ∷ []) = d ∷ []
trimmed (d ∷ e ∷ ds) =
    let rest = trimmed (e ∷ ds) in
    pick (eqb d 48) rest (d ∷ e ∷ ds)

-- a number in decimal, with no leading zero: none here has more than ten digits
unfoldable pub decimal_of : ℕ → List ℕ
decimal_of v = trimmed (digits_of 10 10 v)
