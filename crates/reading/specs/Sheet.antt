-- A whole sheet (document 01, "The bench sheet"): its lines from the first to the last, and what they set.
use Rattle.std.specs.Prelude.{List, [], ◌∷◌, ℕ, zero, suc, ◌+◌, ltb, length, set, replicate}
use Rattle.std.proofs.lemmas.List.Edits.{sets}
use Rattle.words.specs.Pick.{pick}
use Rattle.reading.specs.Cut.{line_end, before, after, count}
use Rattle.reading.specs.Setting.{Setting, with_mem, with_map, with_regs, with_start, with_budget}
use Rattle.reading.specs.Line.{Line, page, bytes, reg, start, run, wrong, line_of}
use Rattle.reading.specs.Order.{may_stand, may_end}

-- A bad sheet: the number of its first bad line, and memory, page words and registers as the lines before it left them.
-- Or what a good one sets.
pub data Reading : Type 0 where
  bad : ℕ → List ℕ → List ℕ → List ℕ → Reading
  good : Setting → Reading

abbrev pub bad_at : ℕ → Setting → Reading
bad_at n h = bad n h.mem h.map h.regs

-- a text's lines, as many as there are line ends; a last line without LF is misformed
unfoldable pub lines_from : ℕ → List ℕ → List Line
lines_from zero [] = []
lines_from zero (b ∷ bs) = wrong ∷ []
lines_from (suc k) text = line_of (before line_end text) ∷ lines_from k (after line_end text)

abbrev pub lines_of : List ℕ → List Line
lines_of sheet = lines_from (count line_end sheet) sheet

-- what a line sets; of two BYTES lines that set a byte the later wins
unfoldable pub set_by : Line → Setting → Setting
set_by (page n w) h = with_map h (set h.map n w)
set_by (bytes a bs) h = with_mem h (sets h.mem a bs)
set_by (reg n v) h = with_regs h (set h.regs n v)
set_by (start pc code mask) h = with_start h pc code mask
set_by (run budget) h = with_budget h budget
set_by wrong h = h

-- The lines below those above, which set h. The first line that may not stand where it stands is the bad one, and a missing line
-- counts as the line after the last. Lines are counted from 1.
unfoldable pub read_below : List Line → Setting → List Line → Reading
read_below above h [] = pick (may_end above) (good h) (bad_at (length above + 1) h)
read_below above h (l ∷ ls) =
    let on = read_below (l ∷ above) (set_by l h) ls in
    pick (may_stand l above) on (bad_at (length above + 1) h)

-- a sheet that is read onto given lists; over 65,536 bytes it gives line 0 before all else
unfoldable pub read_onto : List ℕ → List ℕ → List ℕ → List ℕ → Reading
read_onto mem map regs sheet =
    let h : Setting = record { mem = mem; map = map; regs = regs; pc = 0; code = 0; mask = 0; budget = 0 } in
    let lines = read_below [] h (lines_of sheet) in
    pick (ltb 65536 (length sheet)) (bad 0 mem map regs) lines

-- a sheet: memory, page words and registers are zero at first
unfoldable pub reading_of : List ℕ → Reading
reading_of sheet = read_onto (replicate 65536 0) (replicate 512 0) (replicate 16 0) sheet
