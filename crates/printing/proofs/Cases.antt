-- Worked cases: the whole case of document 01, a sheet that is not well formed, and numbers at their edges.
use mathlib.Core.Path.{◌≡◌, refl}
use mathlib.Core.List.{List, [], ◌∷◌, map}
use Prim.Native.Nat.{ℕ}
use lib.ListN.{replicate, set}
use Rattle.words.specs.Ascii.{ascii}
use Rattle.printing.specs.Digits.{hex_of, decimal_of, digits_of, digit, trimmed}
use Rattle.printing.specs.Lines.{bad_line, stop_line, reg_line, start_line, page_line}
use Rattle.printing.specs.Answer.{answer_text, regs_from, pages_from, reg_part, page_part}

-- what the definitions give, and what the document says
record Case : Type 0 where
  given : List ℕ
  said : List ℕ

abbrev case : List ℕ → List ℕ → Case
case given said = record { given = given; said = said }

-- the sixteen registers with one that is not zero, and the 512 page words with one that is not
abbrev registers : ℕ → ℕ → List ℕ
registers n v = set (replicate 16 0) n v

abbrev pages : ℕ → ℕ → List ℕ
pages n w = set (replicate 512 0) n w

table : List Case
table =
    case
    (answer_text 7 0 1 0x00A004 0 0 (registers 1 5) (pages 10 0x3003) (pages 10 0x7003))
    (ascii "STOP\t7\t000000\t1\nREG\t1\t00000005\nSTART\t00A004\t0\t0\nPAGE\t10\t7003\n")
    ∷ case
    (answer_text 3 0x00A000 0 0x00A000 3 15 (registers 15 0x80000000) (pages 511 0x3003) (pages 511 0x3003))
    (ascii "STOP\t3\t00A000\t0\nREG\t15\t80000000\nSTART\t00A000\t3\t15\n")
    ∷ case (bad_line 0) (ascii "BAD\t0\n")
    ∷ case (bad_line 12) (ascii "BAD\t12\n")
    ∷ case (decimal_of 65535) (ascii "65535")
    ∷ case (decimal_of 4294967295) (ascii "4294967295")
    ∷ case (decimal_of 1000) (ascii "1000")
    ∷ case (hex_of 8 0x9ABCDEF0) (ascii "9ABCDEF0")
    ∷ case (hex_of 4 0x12345) (ascii "2345")
    ∷ []

all_right : map (λ (k : Case). k.given) table ≡ map (λ (k : Case). k.said) table
unfolding table answer_text stop_line reg_line start_line page_line bad_line regs_from pages_from reg_part page_part decimal_of digits_of digit trimmed
all_right = refl
