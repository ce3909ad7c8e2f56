-- Slips in printing the answer: of functions of `printing::lines`, of `printing::digits`, and of `sheet::answer`.
use Rattle.std.specs.Prelude.{ℕ, ◌+◌, ◌%◌, List, [], ◌∷◌, ◌++◌, eqb, ltb, length}
use Prim.Native.String.{String}
use Rattle.words.specs.Pick.{pick}
use Rattle.printing.specs.Digits.{digit, digits_of, trimmed, decimal_of}
use Rattle.printing.specs.Lines.{STOP, LF, field, stop_line, reg_line, start_line, page_line}
use Rattle.printing.specs.Answer.{reg_part, page_part, regs_from, pages_from, answer_text}
use Rattle.slips.specs.Row.{Row, row}

-- the definitions that this table computes
unfoldable pub computes : Unit {0}
unfolding digit digits_of trimmed decimal_of stop_line reg_line start_line page_line reg_part page_part regs_from pages_from answer_text
computes = tt

-- the page's word as it was before
abbrev word_before : ℕ → ℕ → ℕ → List ℕ
word_before n b a = pick (eqb b a) [] (page_line n b)

-- a mark that was there before taken for one that the run has set
abbrev marked_before : ℕ → ℕ → ℕ → List ℕ
marked_before n b a = pick (eqb (b % 16384) a) [] (page_line n a)

-- a register is printed whatever it holds
abbrev every_register : ℕ → ℕ → List ℕ
every_register n v = reg_line n v

-- a register is left out by its number
abbrev by_its_number : ℕ → ℕ → List ℕ
by_its_number n v = pick (eqb n 0) [] (reg_line n v)

-- digits a to f
abbrev lower_case : ℕ → ℕ
lower_case d = pick (ltb d 10) (48 + d) (87 + d)

-- the place in decimal
abbrev decimal_place : ℕ → ℕ → ℕ → List ℕ
decimal_place number place count =
    STOP ++ field (decimal_of number) ++ field (decimal_of place) ++ field (decimal_of count) ++ LF

-- an answer with these page words at the start and at the end; the page words at the end compared with themselves
abbrev answered : List ℕ → List ℕ → List ℕ
answered before after = answer_text 7 0 1 0xa004 0 0 [] before after

abbrev none_altered : List ℕ → List ℕ → List ℕ
none_altered before after = answered after after

-- a row of two texts: their lengths, then their characters
abbrev texts : String → List ℕ → List ℕ → ℕ → ℕ → Row
texts slip right slipped one other = row slip (length right ∷ right) (length slipped ∷ slipped) one other

abbrev pub slips : List Row
slips =
    -- printing::lines::page_part and reg_part
    texts "page word from before" (page_part 10 0x3003 0x7003) (word_before 10 0x3003 0x7003) 55 51
    ∷ texts "marks already there printed as altered" (page_part 10 0x7003 0x7003) (marked_before 10 0x7003 0x7003) 0 13
    ∷ texts "a zero register printed" (reg_part 1 0) (every_register 1 0) 0 15
    ∷ texts "a register left out by its number" (reg_part 0 5) (by_its_number 0 5) 15 0
    -- printing::digits::digit_at; printing::lines::stop_line
    ∷ texts "lower-case hex" (digit 10 ∷ []) (lower_case 10 ∷ []) 65 97
    ∷ texts "decimal place" (stop_line 3 0xa000 0) (decimal_place 3 0xa000 0) 16 15
    -- sheet::answer
    ∷ texts "no page counts as altered" (answered (0x3003 ∷ []) (0x7003 ∷ [])) (none_altered (0x3003 ∷ []) (0x7003 ∷ [])) 45 33
    ∷ []
