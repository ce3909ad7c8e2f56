-- The order of a sheet's lines (document 01, "The bench sheet"): PAGE, BYTES, REG lines (any number each), one START, one RUN,
-- nothing after; no PAGE and no REG given twice.
use Rattle.std.specs.Prelude.{Bool, true, false, not, List, [], ◌∷◌, ℕ, eqb}
use Rattle.words.specs.Pick.{both}
use Rattle.reading.specs.Line.{Line, page, bytes, reg, start, run, wrong}

-- some kinds of line: PAGE lines of which pages, BYTES lines, REG lines of which registers, START lines, RUN lines
pub record Kinds : Type 0 where
  pub page : ℕ → Bool
  pub bytes : Bool
  pub reg : ℕ → Bool
  pub start : Bool
  pub run : Bool

-- of any number, of none, of any but n
abbrev pub any : ℕ → Bool
any m = true

abbrev pub none : ℕ → Bool
none m = false

abbrev pub except : ℕ → ℕ → Bool
except n m = not (eqb m n)

-- whether a line is of one of the kinds; a misformed line is of none
abbrev pub is_of : Kinds → Line → Bool
is_of k (page n w) = k.page n
is_of k (bytes a bs) = k.bytes
is_of k (reg n v) = k.reg n
is_of k (start pc code mask) = k.start
is_of k (run budget) = k.run
is_of k wrong = false

-- The lines above a line, listed from the nearest up: whether each of them is of one of the kinds, and whether the nearest is.
unfoldable pub each : Kinds → List Line → Bool
each k [] = true
each k (l ∷ above) = both (is_of k l) (each k above)

unfoldable pub nearest : Kinds → List Line → Bool
nearest k [] = false
nearest k (l ∷ above) = is_of k l

-- what may stand above PAGE: PAGE lines of other pages
abbrev pub above_page : ℕ → Kinds
above_page n = record { page = except n; bytes = false; reg = none; start = false; run = false }

-- above BYTES: PAGE and BYTES lines
abbrev pub above_bytes : Kinds
above_bytes = record { page = any; bytes = true; reg = none; start = false; run = false }

-- above REG: PAGE and BYTES lines, and REG lines of other registers
abbrev pub above_reg : ℕ → Kinds
above_reg n = record { page = any; bytes = true; reg = except n; start = false; run = false }

-- above START: PAGE, BYTES and REG lines
abbrev pub above_start : Kinds
above_start = record { page = any; bytes = true; reg = any; start = false; run = false }

-- just above RUN: START
abbrev pub above_run : Kinds
above_run = record { page = none; bytes = false; reg = none; start = true; run = false }

-- just above the end: RUN
abbrev pub above_end : Kinds
above_end = record { page = none; bytes = false; reg = none; start = false; run = true }

-- whether a line may stand below the lines above it, and whether a sheet may end below them
unfoldable pub may_stand : Line → List Line → Bool
may_stand (page n w) above = each (above_page n) above
may_stand (bytes a bs) above = each above_bytes above
may_stand (reg n v) above = each (above_reg n) above
may_stand (start pc code mask) above = each above_start above
may_stand (run budget) above = nearest above_run above
may_stand wrong above = false

abbrev pub may_end : List Line → Bool
may_end above = nearest above_end above
