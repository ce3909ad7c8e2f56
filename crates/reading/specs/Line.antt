-- One line of a sheet, without its line end: what it says, or that it is misformed or has a value out of range.
use Rattle.std.specs.Prelude.{List, ℕ, ◌+◌, ◌/◌, leb, length}
use Rattle.words.specs.Pick.{pick, both}
use Rattle.words.specs.Ascii.{ascii, same}
use Rattle.reading.specs.Cut.{tab, before, after}
use Rattle.reading.specs.Digits.{value_of, is_decimal, is_hex, is_bytes, pairs_of}

-- the number and word of a page; an address and bytes; the number and word of a register; counter, code and mask; a budget
pub data Line : Type 0 where
  page : ℕ → ℕ → Line
  bytes : ℕ → List ℕ → Line
  reg : ℕ → ℕ → Line
  start : ℕ → ℕ → ℕ → Line
  run : ℕ → Line
  wrong : Line

-- a text's first field, and what stands after the tab behind it
abbrev pub first : List ℕ → List ℕ
first text = before tab text

abbrev pub others : List ℕ → List ℕ
others text = after tab text

-- a number from 0 to `last`, and a word of k hexadecimal digits
unfoldable pub read_entry : (ℕ → ℕ → Line) → ℕ → ℕ → List ℕ → Line
read_entry make last k text =
    pick (both (is_decimal last (first text)) (is_hex k (others text)))
    (make (value_of 10 (first text)) (value_of 16 (others text)))
    wrong

-- PAGE: number 0 to 511, word of 4 hexadecimal digits
abbrev pub read_page : List ℕ → Line
read_page text = read_entry page 511 4 text

-- REG: number 0 to 15, word of 8 hexadecimal digits
abbrev pub read_reg : List ℕ → Line
read_reg text = read_entry reg 15 8 text

-- BYTES: real address, 1 to 32 bytes, none of them past the 65,536 bytes of memory
unfoldable pub read_bytes : List ℕ → Line
read_bytes text =
    pick
    (both (both (is_decimal 65535 (first text)) (is_bytes (others text)))
    (leb (value_of 10 (first text) + length (others text) / 2) 65536))
    (bytes (value_of 10 (first text)) (pairs_of (others text)))
    wrong

-- START: counter of 6 hexadecimal digits, code 0 to 3, mask 0 to 15
unfoldable pub read_start : List ℕ → Line
read_start text =
    pick
    (both (is_hex 6 (first text))
    (both (is_decimal 3 (first (others text))) (is_decimal 15 (others (others text)))))
    (start (value_of 16 (first text)) (value_of 10 (first (others text))) (value_of 10 (others (others text))))
    wrong

-- RUN: budget 0 to 65,535
unfoldable pub read_run : List ℕ → Line
read_run text = pick (is_decimal 65535 text) (run (value_of 10 text)) wrong

-- the names of the kinds
abbrev pub PAGE : List ℕ
PAGE = ascii "PAGE"

abbrev pub BYTES : List ℕ
BYTES = ascii "BYTES"

abbrev pub REG : List ℕ
REG = ascii "REG"

abbrev pub START : List ℕ
START = ascii "START"

abbrev pub RUN : List ℕ
RUN = ascii "RUN"

-- A line's first field is the name of its kind.
unfoldable pub line_of : List ℕ → Line
line_of text =
    pick (same (first text) PAGE)
    (read_page (others text))
    (pick (same (first text) BYTES)
    (read_bytes (others text))
    (pick (same (first text) REG)
    (read_reg (others text))
    (pick (same (first text) START)
    (read_start (others text))
    (pick (same (first text) RUN) (read_run (others text)) wrong))))
