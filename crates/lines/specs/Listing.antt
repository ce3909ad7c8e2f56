-- A listing: the lines of some code from an address on, those that fit an output, and the answer.
use Rattle.std.specs.Prelude.{Option, Some, None, List, [], ◌∷◌, ◌++◌, ℕ, zero, suc, ◌+◌, ◌-◌, ◌%◌, ◌^◌, leb, ltb, length, get_or, take, drop, Result, Ok, Err}
use Rattle.words.specs.Pick.{pick}
use Rattle.code.specs.declared.Action.{Action}
use Rattle.code.specs.Table.{action_of}
use Rattle.code.specs.Formats.{length_of}
use Rattle.lines.specs.declared.Listed.{Listed}
use Rattle.lines.specs.declared.StartOutOfRange.{StartOutOfRange}
use Rattle.lines.specs.Line.{Line, line, text_of}

-- raw bytes: two, or the one that is left
abbrev pub raw_size : ℕ → ℕ
raw_size left = pick (ltb left 2) left 2

-- how many of the bytes that are left the first line stands for: those of an instruction that is there whole, else raw bytes
abbrev pub size_in : Option Action → ℕ → ℕ
size_in (Some x) left = pick (leb (length_of x) left) (length_of x) (raw_size left)
size_in None left = raw_size left

unfoldable pub size_of : List ℕ → ℕ
size_of code = size_in (action_of (get_or code 0 0)) (length code)

-- addresses wrap
abbrev pub wrapped : ℕ → ℕ
wrapped a = a % 2 ^ 24

-- the lines of code that lies at an address, n at most
unfoldable pub lines_in : ℕ → ℕ → List ℕ → List Line
lines_in zero a code = []
lines_in (suc n) a [] = []
lines_in (suc n) a (b ∷ bs) =
    let code = b ∷ bs in
    line a (take (size_of code) code) ∷ lines_in n (wrapped (a + size_of code)) (drop (size_of code) code)

-- all of them: there are no more lines than bytes
unfoldable pub listing : ℕ → List ℕ → List Line
listing a code = lines_in (length code) a code

-- the lines' bytes, and the lines' texts, one behind the other
unfoldable pub stretches : List Line → List ℕ
stretches [] = []
stretches (l ∷ ls) = l.bytes ++ stretches ls

unfoldable pub texts : List Line → List ℕ
texts [] = []
texts (l ∷ ls) = text_of l ++ texts ls

-- the lines that fit whole: the first that does not ends it
unfoldable pub fitting : ℕ → List Line → List Line
fitting room [] = []
fitting room (l ∷ ls) =
    let rest = fitting (room - length (text_of l)) ls in
    pick (leb (length (text_of l)) room) (l ∷ rest) []

-- The answer: a number, how many lines were written, the code byte to go on from, how many bytes of the output the lines take, and
-- the whole output.
pub record Answer : Type 0 where
  pub number : ℕ
  pub lines : ℕ
  pub next : ℕ
  pub written : ℕ
  pub out : List ℕ

abbrev pub answered : Result Listed StartOutOfRange → List ℕ → Answer
answered (Ok r) out = record { number = 0; lines = r.lines; next = r.next; written = r.written; out = out }
answered (Err e) out = record { number = 6; lines = 0; next = 0; written = 0; out = out }

-- the answer when lines that stand for the code from the byte `at` on are put out: behind them is what stood there before
unfoldable pub put_out : ℕ → List Line → List ℕ → Answer
put_out at ls out =
    record {
      number = 0;
      lines = length ls;
      next = at + length (stretches ls);
      written = length (texts ls);
      out = texts ls ++ drop (length (texts ls)) out;
    }

-- the listing from the byte `at` on of code whose first byte lies at `start`
unfoldable pub listed_from : List ℕ → ℕ → ℕ → List ℕ → Answer
listed_from code at start out = put_out at (fitting (length out) (listing (wrapped (start + at)) (drop at code))) out

-- a start out of range gives 6
unfoldable pub listed : List ℕ → ℕ → List ℕ → Answer
listed code start out =
    pick (ltb start (2 ^ 24)) (listed_from code 0 start out) (record { number = 6; lines = 0; next = 0; written = 0; out = out })
