-- Sheets and what they come to, by computing.
use mathlib.Core.Path.{◌≡◌, refl}
use mathlib.Core.Bool.{Bool, true, false}
use mathlib.Core.List.{List, [], ◌∷◌}
use Prim.Native.Nat.{ℕ, suc}
use Prim.Native.String.{String}
use lib.Dec.{eqb}
use lib.ListN.{get_or, take, drop, replicate}
use Rattle.words.specs.Ascii.{ascii, same}
use Rattle.reading.specs.Cut.{span, before, after, count}
use Rattle.reading.specs.Digits.{digit_of, all_digits, value_after, no_leading_zero, is_decimal, is_hex, is_bytes, pairs_of}
use Rattle.reading.specs.Line.{read_entry, read_bytes, read_start, read_run, line_of}
use Rattle.reading.specs.Order.{each, nearest, may_stand}
use Rattle.reading.specs.Sheet.{Reading, bad, good, lines_from, set_by, read_below, read_onto, reading_of}

-- a sheet and what it comes to: 0 where it is good, or one more than the number of its bad line
pub record Case : Type 0 where
  pub sheet : List ℕ
  pub expected : ℕ

abbrev fine : String → Case
fine sheet = record { sheet = ascii sheet; expected = 0 }

abbrev faulty : ℕ → String → Case
faulty n sheet = record { sheet = ascii sheet; expected = suc n }

abbrev answered : Reading → ℕ
answered (bad n mem map regs) = suc n
answered (good s) = 0

unfoldable pub table : List Case
table =
    -- whole case
    fine "PAGE\t10\t3003\nBYTES\t12288\t41100005\nSTART\t00A000\t0\t0\nRUN\t1\n"
    ∷  -- no line at all
    faulty 1 ""
    ∷  -- an empty line
    faulty 1 "\n"
    ∷  -- no line end behind the last line
    faulty 2 "START\t00A000\t0\t0\nRUN\t1"
    ∷  -- RUN missing
    faulty 2 "START\t00A000\t0\t0\n"
    ∷  -- START missing
    faulty 1 "RUN\t1\n"
    ∷  -- a line behind RUN
    faulty 3 "START\t00A000\t0\t0\nRUN\t1\n\n"
    ∷  -- REG before BYTES
    faulty 2 "REG\t1\t00000005\nBYTES\t0\t00\nSTART\t00A000\t0\t0\nRUN\t1\n"
    ∷  -- PAGE after BYTES
    faulty 2 "BYTES\t0\t00\nPAGE\t1\t3003\nSTART\t00A000\t0\t0\nRUN\t1\n"
    ∷  -- a page of word 0 twice
    faulty 2 "PAGE\t1\t0000\nPAGE\t1\t0000\nSTART\t00A000\t0\t0\nRUN\t1\n"
    ∷  -- a register twice
    faulty 2 "REG\t15\t00000000\nREG\t15\t00000000\nSTART\t00A000\t0\t0\nRUN\t1\n"
    ∷  -- page 511
    fine "PAGE\t511\tFFFF\nSTART\t00A000\t0\t0\nRUN\t1\n"
    ∷  -- page 512
    faulty 1 "PAGE\t512\tFFFF\nSTART\t00A000\t0\t0\nRUN\t1\n"
    ∷  -- register 16
    faulty 1 "REG\t16\t00000000\nSTART\t00A000\t0\t0\nRUN\t1\n"
    ∷  -- a leading zero
    faulty 1 "PAGE\t01\t3003\nSTART\t00A000\t0\t0\nRUN\t1\n"
    ∷  -- lower case
    faulty 1 "PAGE\t1\t300a\nSTART\t00A000\t0\t0\nRUN\t1\n"
    ∷  -- three digits for a word
    faulty 1 "PAGE\t1\t300\nSTART\t00A000\t0\t0\nRUN\t1\n"
    ∷  -- an odd digit
    faulty 1 "BYTES\t0\t000\nSTART\t00A000\t0\t0\nRUN\t1\n"
    ∷  -- no byte
    faulty 1 "BYTES\t0\t\nSTART\t00A000\t0\t0\nRUN\t1\n"
    ∷  -- 32 bytes
    fine "BYTES\t65504\tA5A5A5A5A5A5A5A5A5A5A5A5A5A5A5A5A5A5A5A5A5A5A5A5A5A5A5A5A5A5A5A5\nSTART\t00A000\t0\t0\nRUN\t1\n"
    ∷  -- 33 bytes
    faulty 1 "BYTES\t0\tA5A5A5A5A5A5A5A5A5A5A5A5A5A5A5A5A5A5A5A5A5A5A5A5A5A5A5A5A5A5A5A5A5\nSTART\t00A000\t0\t0\nRUN\t1\n"
    ∷  -- a byte past memory
    faulty 1 "BYTES\t65505\tA5A5A5A5A5A5A5A5A5A5A5A5A5A5A5A5A5A5A5A5A5A5A5A5A5A5A5A5A5A5A5A5\nSTART\t00A000\t0\t0\nRUN\t1\n"
    ∷  -- two tabs
    faulty 1 "RUN\t\t1\n"
    ∷  -- a field too many
    faulty 1 "START\t00A000\t0\t0\t\nRUN\t1\n"
    ∷  -- code 4
    faulty 1 "START\t00A000\t4\t0\nRUN\t1\n"
    ∷  -- mask 16
    faulty 1 "START\t00A000\t0\t16\nRUN\t1\n"
    ∷  -- budget 65535
    fine "START\tFFFFFF\t3\t15\nRUN\t65535\n"
    ∷  -- budget 65536
    faulty 2 "START\tFFFFFF\t3\t15\nRUN\t65536\n"
    ∷  -- two START lines
    faulty 2 "START\t00A000\t0\t0\nSTART\t00A000\t0\t0\nRUN\t1\n"
    ∷  -- BYTES after REG, at the bottom of a good beginning
    faulty 4 "PAGE\t1\t3003\nBYTES\t0\t00\nREG\t1\t00000005\nBYTES\t0\t00\nSTART\t00A000\t0\t0\nRUN\t1\n"
    ∷  -- REG after START
    faulty 2 "START\t00A000\t0\t0\nREG\t1\t00000005\nRUN\t1\n"
    ∷  -- two RUN lines
    faulty 3 "START\t00A000\t0\t0\nRUN\t1\nRUN\t1\n"
    ∷  -- bytes without a line end behind RUN
    faulty 3 "START\t00A000\t0\t0\nRUN\t1\nR"
    ∷  -- several of each kind, in any order of their numbers
    fine "PAGE\t2\t3003\nPAGE\t1\t3003\nBYTES\t1\t00\nBYTES\t0\t0000\nREG\t2\t00000005\nREG\t1\t00000005\nSTART\t00A000\t0\t0\nRUN\t1\n"
    ∷  -- START and RUN missing
    faulty 2 "PAGE\t1\t3003\n"
    ∷ []

-- the sheets whose answer is another than the table says
unfoldable pub failing : List Case → List (List ℕ)
failing [] = []
failing (c ∷ cs) = skip (eqb (answered (reading_of c.sheet)) c.expected) c.sheet (failing cs)
  where
    skip : Bool → List ℕ → List (List ℕ) → List (List ℕ)
    skip true s rest = rest
    skip false s rest = s ∷ rest

unfoldable computes : Unit {0}
unfolding reading_of read_onto read_below lines_from set_by may_stand each nearest line_of read_entry read_bytes read_start read_run same is_decimal is_hex is_bytes no_leading_zero all_digits value_after digit_of pairs_of span before after count
computes = tt

all_right : failing table ≡ []
unfolding computes failing table
all_right = refl

-- ---- the whole case's setting: counter, code, mask and budget, page 10, and memory from 12,287 to 12,292
shown : Reading → List ℕ
shown (bad n mem map regs) = []
shown (good s) =
    s.pc ∷ s.code ∷ s.mask ∷ s.budget ∷ get_or s.map 10 0 ∷ take 6 (drop 12287 s.mem)

whole_case : shown (reading_of (get_or table 0 (fine "")).sheet) ≡ 0x00A000 ∷ 0 ∷ 0 ∷ 1 ∷ 0x3003 ∷ 0 ∷ 0x41 ∷ 0x10 ∷ 0x00 ∷ 0x05 ∷ 0 ∷ []
unfolding computes shown table
whole_case = refl

-- ---- a sheet of 65,537 bytes
over : answered (reading_of (replicate 65537 10)) ≡ 1
unfolding computes
over = refl
