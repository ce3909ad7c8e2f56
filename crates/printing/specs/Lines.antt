-- The lines: a name, fields that are parted by tabs, and LF.
use Rattle.std.specs.Prelude.{List, ◌++◌, ℕ}
use Rattle.words.specs.Ascii.{ascii}
use Rattle.printing.specs.Digits.{hex_of, decimal_of}

abbrev pub STOP : List ℕ
STOP = ascii "STOP"

abbrev pub REG : List ℕ
REG = ascii "REG"

abbrev pub START : List ℕ
START = ascii "START"

abbrev pub PAGE : List ℕ
PAGE = ascii "PAGE"

abbrev pub BAD : List ℕ
BAD = ascii "BAD"

abbrev pub LF : List ℕ
LF = ascii "\n"

-- a tab, then the field
abbrev pub field : List ℕ → List ℕ
field text = ascii "\t" ++ text

-- number and count in decimal, the place as 6 hex digits
unfoldable pub stop_line : ℕ → ℕ → ℕ → List ℕ
stop_line number place count = STOP ++ field (decimal_of number) ++ field (hex_of 6 place) ++ field (decimal_of count) ++ LF

-- a register's number, and its word as 8 hex digits
unfoldable pub reg_line : ℕ → ℕ → List ℕ
reg_line n v = REG ++ field (decimal_of n) ++ field (hex_of 8 v) ++ LF

-- the counter as 6 hex digits, code and mask in decimal
unfoldable pub start_line : ℕ → ℕ → ℕ → List ℕ
start_line pc code mask = START ++ field (hex_of 6 pc) ++ field (decimal_of code) ++ field (decimal_of mask) ++ LF

-- a page's number, and its word as 4 hex digits
unfoldable pub page_line : ℕ → ℕ → List ℕ
page_line n w = PAGE ++ field (decimal_of n) ++ field (hex_of 4 w) ++ LF

-- the line of the sheet that is wrong
unfoldable pub bad_line : ℕ → List ℕ
bad_line n = BAD ++ field (decimal_of n) ++ LF
