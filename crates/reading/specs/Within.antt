-- Working definitions: how the functions behind `read_sheet` hand on to each other what they read, and the state that they keep of it.
-- No contract that others see cites this file.
use Rattle.std.specs.Prelude.{◌≡◌, Bool, true, false, not, List, ℕ, zero, suc, ◌+◌, eqb, leb, length, get_or, set, Option, Some, None, Result}
use Rattle.words.specs.Pick.{pick, both}
use Rattle.reading.specs.Cut.{before, after}
use Rattle.reading.specs.Digits.{all_digits, pairs_of}
use Rattle.reading.specs.Line.{Line, page, bytes, reg, start, run, wrong, line_of}
use Rattle.reading.specs.Setting.{Setting}
use Rattle.reading.specs.Sheet.{Reading, good, bad_at, set_by}
use Rattle.reading.specs.Answered.{as_reading}
use Rattle.reading.specs.declared.BadLine.{BadLine}
use Rattle.reading.specs.declared.Start as Said
use Rattle.reading.specs.declared.sheet.Stage.{Stage}
use Rattle.reading.specs.declared.sheet.Stage.TheVariants as at
use Rattle.reading.specs.declared.sheet.Progress.{Progress}
use Rattle.reading.specs.declared.sheet.Onto.{Onto}
use Rattle.reading.specs.declared.line.Line as Code
use Rattle.reading.specs.declared.line.Line.TheVariants.{Page, Bytes, Reg, Start, Run}

-- a line that was read, or that is wrong
abbrev pub as_line : Option Code.Line → Line
as_line None = wrong
as_line (Some (Page n w)) = page n w
as_line (Some (Bytes a digits)) = bytes a (pairs_of digits.now)
as_line (Some (Reg n v)) = reg n v
as_line (Some (Start pc code mask)) = start pc code mask
as_line (Some (Run n)) = run n

-- a BYTES line has only hexadecimal digits
abbrev pub HexBehind : Option Code.Line → Type 0
HexBehind None = Unit {0}
HexBehind (Some (Page n w)) = Unit {0}
HexBehind (Some (Bytes a digits)) = all_digits 16 digits.now ≡ true
HexBehind (Some (Reg n v)) = Unit {0}
HexBehind (Some (Start pc code mask)) = Unit {0}
HexBehind (Some (Run n)) = Unit {0}

-- what was read of a text is a line
pub record Says (r : Option Code.Line) (l : Line) : Type 0 where
  pub line : as_line r ≡ l
  pub hex : HexBehind r

-- What the code keeps of the lines so far: how far the sheet has got, whether a line gave each page and each register, the setting.
-- The stage is 0 at first and after a PAGE line, 1 after BYTES, 2 after REG, 3 after START and 4 after RUN.
pub record State : Type 0 where
  pub stage : ℕ
  pub pages : List Bool
  pub named : List Bool
  pub held : Setting

abbrev pub stage_number : Stage → ℕ
stage_number at.Pages = 0
stage_number at.Bytes = 1
stage_number at.Regs = 2
stage_number at.Started = 3
stage_number at.Complete = 4

-- the state, from what the code keeps
abbrev pub state_of : Progress → Onto → State
state_of p o =
    record {
      stage = stage_number p.stage;
      pages = o.pages;
      named = o.named;
      held = record {
        mem = o.mem.now;
        map = o.map.now;
        regs = o.regs.now;
        pc = p.said.pc;
        code = p.said.code;
        mask = p.said.mask;
        budget = p.said.budget;
      };
    }

-- before the first line
abbrev pub start_of : Progress
start_of = record { stage = at.Pages; said = record { pc = 0; code = 0; mask = 0; budget = 0 } }

-- what is lent is the same, and as long as it was
pub record SameLent (o o' : Onto) : Type 0 where
  pub mem : o'.mem.ghost_name ≡ o.mem.ghost_name
  pub map : o'.map.ghost_name ≡ o.map.ghost_name
  pub regs : o'.regs.ghost_name ≡ o.regs.ghost_name
  pub mem_len : length o'.mem.now ≡ length o.mem.now
  pub map_len : length o'.map.now ≡ length o.map.now
  pub regs_len : length o'.regs.now ≡ length o.regs.now

-- whether the code takes a line
abbrev pub goes_on : Line → State → Bool
goes_on (page n w) s = both (eqb s.stage 0) (not (get_or s.pages n false))
goes_on (bytes a bs) s = leb s.stage 1
goes_on (reg n v) s = both (leb s.stage 2) (not (get_or s.named n false))
goes_on (start pc code mask) s = leb s.stage 2
goes_on (run budget) s = eqb s.stage 3
goes_on wrong s = false

-- the state after a line that it takes
abbrev pub state_after : Line → State → State
state_after (page n w) s =
    record { stage = 0; pages = set s.pages n true; named = s.named; held = set_by (page n w) s.held }
state_after (bytes a bs) s = record { stage = 1; pages = s.pages; named = s.named; held = set_by (bytes a bs) s.held }
state_after (reg n v) s =
    record { stage = 2; pages = s.pages; named = set s.named n true; held = set_by (reg n v) s.held }
state_after (start pc code mask) s =
    record { stage = 3; pages = s.pages; named = s.named; held = set_by (start pc code mask) s.held }
state_after (run budget) s = record { stage = 4; pages = s.pages; named = s.named; held = set_by (run budget) s.held }
state_after wrong s = s

-- What a line leads to: one that is not taken leaves every list as it was, one that is leads to a state
pub data Stepped : Type 0 where
  stays : List ℕ → List ℕ → List ℕ → List Bool → List Bool → Stepped
  goes : State → Stepped

abbrev pub stayed : State → Stepped
stayed s = stays s.held.mem s.held.map s.held.regs s.pages s.named

abbrev pub stepped : State → Line → Stepped
stepped s l = pick (goes_on l s) (goes (state_after l s)) (stayed s)

abbrev pub as_stepped : Option Progress → Onto → Stepped
as_stepped None o = stays o.mem.now o.map.now o.regs.now o.pages o.named
as_stepped (Some p) o = goes (state_of p o)

-- what the lines come to, and the flags as they leave them
pub record Left : Type 0 where
  pub reading : Reading
  pub pages : List Bool
  pub named : List Bool

abbrev pub left : Reading → List Bool → List Bool → Left
left r pages named = record { reading = r; pages = pages; named = named }

abbrev pub left_bad : ℕ → State → Left
left_bad n s = left (bad_at n s.held) s.pages s.named

abbrev pub as_left : Result Said.Start BadLine → Onto → Left
as_left r o = left (as_reading r o.mem.now o.map.now o.regs.now) o.pages o.named

-- the lines from number n on, as many as there are line ends
unfoldable pub read_lines : ℕ → ℕ → List ℕ → State → Left
read_lines zero n text s =
    pick (both (eqb (length text) 0) (eqb s.stage 4)) (left (good s.held) s.pages s.named) (left_bad n s)
read_lines (suc k) n text s =
    let l = line_of (before 10 text) in
    pick (goes_on l s) (read_lines k (n + 1) (after 10 text) (state_after l s)) (left_bad n s)
