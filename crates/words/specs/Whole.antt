-- The whole number that a word stands for, and what a word keeps of a whole number. `top` is the weight of the sign bit: a word
-- has as many values as top + top. Negative numbers are two's complement (001, L3284; document 01, "The machine we keep").
use Rattle.std.specs.Prelude.{Bool, ℕ, ◌+◌, ◌-◌, ◌%◌, ltb, ℤ, pos, negsuc, neg_ℤ, nat_abs}
use Rattle.std.proofs.Math.IntN.{sub_ℕ}
use Rattle.std.specs.Int.Signed.{lt_z}
use Rattle.words.specs.Pick.{pick, either}

-- the weight of the sign bit, in a word, in a halfword, and in the double word of a pair of registers
abbrev pub word_top : ℕ
word_top = 2147483648

abbrev pub half_top : ℕ
half_top = 32768

abbrev pub double_top : ℕ
double_top = 9223372036854775808

-- what the bits a stand for: a itself, or a less the number of values where the sign bit is set
unfoldable pub signed : ℕ → ℕ → ℤ
signed top a = pick (ltb a top) (pos a) (sub_ℕ a (top + top))

-- the low bits of a whole number, as many as the word has
unfoldable pub kept : ℕ → ℤ → ℕ
kept top (pos n) = n % (top + top)
kept top (negsuc n) = top + top - 1 - n % (top + top)

-- whether no word stands for it: below -top, or top and above
unfoldable pub overflows : ℕ → ℤ → Bool
overflows top z = either (lt_z z (neg_ℤ (pos top))) (lt_z (pos (top - 1)) z)

-- its size without its sign
abbrev pub magnitude : ℤ → ℤ
magnitude z = pos (nat_abs z)

-- a halfword operand as a word: the sign bit goes to the 16 places on its left (001, L3272, L3422)
unfoldable pub spread : ℕ → ℕ
unfolding signed kept
spread h = kept word_top (signed half_top h)
