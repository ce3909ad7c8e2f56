-- Slips in reading a sheet: of `reading::read_sheet`, and of what it stands on.
use Rattle.std.specs.Prelude.{ℕ, ◌+◌, ◌-◌, Bool, true, false, List, [], ◌∷◌, ◌++◌, eqb, leb, ltb, length, get_or, replicate}
use Prim.Native.String.{String}
use Rattle.words.specs.Pick.{pick, both, either}
use Rattle.words.specs.Ascii.{ascii, same}
use Rattle.reading.specs.Cut.{span, before, after, count}
use Rattle.reading.specs.Digits.{digit_of, all_digits, value_after, value_of, no_leading_zero, is_decimal, is_hex, is_bytes, pairs_of}
use Rattle.reading.specs.Line as line
use Rattle.reading.specs.Order.{Kinds, any, none, is_of, each, nearest, above_start, may_stand, may_end}
use Rattle.reading.specs.Setting.{Setting}
use Rattle.reading.specs.Sheet.{Reading, bad, good, bad_at, lines_from, lines_of, set_by, read_below, read_onto}
use Rattle.slips.specs.Row.{Row, row}

-- the definitions that this table computes
unfoldable pub computes : Unit {0}
unfolding span before after count digit_of all_digits value_after no_leading_zero is_decimal is_hex is_bytes pairs_of same line.read_entry
    line.read_bytes line.read_start line.read_run line.line_of each nearest may_stand lines_from set_by read_below read_onto
computes = tt

-- the reader, with a longest sheet, a test of whether a line may stand below the lines above it, and how far behind the last line a
-- missing one counts
abbrev Test : Type 0
Test = line.Line → List line.Line → Bool

abbrev below_by : Test → ℕ → List line.Line → Setting → List line.Line → Reading
below_by stands behind above h [] = pick (may_end above) (good h) (bad_at (length above + behind) h)
below_by stands behind above h (l ∷ ls) =
    let on = below_by stands behind (l ∷ above) (set_by l h) ls in
    pick (stands l above) on (bad_at (length above + 1) h)

abbrev read_by : ℕ → Test → ℕ → List ℕ → List ℕ → List ℕ → List ℕ → Reading
read_by longest stands behind mem map regs sheet =
    let h : Setting = record { mem = mem; map = map; regs = regs; pc = 0; code = 0; mask = 0; budget = 0 } in
    let lines = below_by stands behind [] h (lines_of sheet) in
    pick (ltb longest (length sheet)) (bad 0 mem map regs) lines

-- PAGE may stand below PAGE, whichever pages they give
abbrev pages : Kinds
pages = record { page = any; bytes = false; reg = none; start = false; run = false }

abbrev given_twice : Test
given_twice l above = pick (is_of pages l) (each pages above) (may_stand l above)

-- RUN may stand where START may
abbrev runs : Kinds
runs = record { page = none; bytes = false; reg = none; start = false; run = true }

abbrev run_early : Test
run_early l above = either (may_stand l above) (both (is_of runs l) (each above_start above))

-- a last line without LF is given one
abbrev mended : List ℕ → List ℕ → List ℕ → List ℕ → Reading
mended mem map regs sheet =
    read_onto mem map regs (pick (eqb (get_or sheet (length sheet - 1) 10) 10) sheet (sheet ++ 10 ∷ []))

-- a number with leading zeros
abbrev any_zeros : ℕ → List ℕ → Bool
any_zeros last bs = both (both (ltb 0 (length bs)) (all_digits 10 bs)) (leb (value_of 10 bs) last)

-- hexadecimal digits of both cases
abbrev both_cases : ℕ → ℕ
both_cases b = pick (both (leb 97 b) (leb b 102)) (b - 87) (digit_of b)

-- BYTES whose first byte alone has to lie in memory
abbrev past_memory : List ℕ → line.Line
past_memory text =
    pick (both (is_decimal 65535 (line.first text)) (is_bytes (line.others text)))
    (line.bytes (value_of 10 (line.first text)) (pairs_of (line.others text)))
    line.wrong

-- a bad line's number; or the counter and the budget
abbrev told : Reading → List ℕ
told (bad n mem map regs) = 0 ∷ n ∷ []
told (good h) = 1 ∷ h.pc ∷ h.budget ∷ []

-- a sheet read onto page words and registers that are zero; no row has a byte for memory
abbrev sheets : String → (List ℕ → List ℕ → List ℕ → List ℕ → Reading) → List ℕ → ℕ → ℕ → Row
sheets slip slipped sheet one other =
    row slip
    (told (read_onto [] (replicate 512 0) (replicate 16 0) sheet))
    (told (slipped [] (replicate 512 0) (replicate 16 0) sheet))
    one
    other

abbrev yes_or_no : Bool → List ℕ
yes_or_no b = pick b 1 0 ∷ []

abbrev bytes_told : line.Line → List ℕ
bytes_told (line.page n w) = []
bytes_told (line.bytes a bs) = 1 ∷ a ∷ bs
bytes_told (line.reg n v) = []
bytes_told (line.start pc code mask) = []
bytes_told (line.run n) = []
bytes_told line.wrong = 0 ∷ []

abbrev pub slips : List Row
slips =
    sheets "a page given twice accepted" (read_by 65536 given_twice 1)
    (ascii "PAGE\t10\t3003\nPAGE\t10\t3004\nSTART\t00A000\t0\t0\nRUN\t1\n") 0 1
    ∷ sheets "RUN before START" (read_by 65536 run_early 1) (ascii "RUN\t1\nSTART\t00A000\t0\t0\n") 1 2
    ∷ sheets "last line without LF accepted" mended (ascii "START\t00A000\t0\t0\nRUN\t1") 0 1
    ∷ sheets "a missing line counted as the last line" (read_by 65536 may_stand 0) (ascii "START\t00A000\t0\t0\n") 2 1
    ∷ sheets "a sheet of 65,537 bytes read" (read_by 65537 may_stand 1) (replicate 65537 0) 0 1
    -- reading::digits::decimal, digit; reading::line::bytes_line
    ∷ row "a leading zero accepted" (yes_or_no (is_decimal 511 (ascii "010"))) (yes_or_no (any_zeros 511 (ascii "010"))) 0 1
    ∷ row "lower-case hex accepted" (digit_of 97 ∷ []) (both_cases 97 ∷ []) 16 10
    ∷ row "BYTES reaching past memory" (bytes_told (line.read_bytes (ascii "65535\t0102"))) (bytes_told (past_memory (ascii "65535\t0102"))) 0 1
    ∷ []
