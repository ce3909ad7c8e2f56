-- What the code's answer stands for.
use Rattle.std.specs.Prelude.{List, ℕ, Result, Ok, Err}
use Rattle.reading.specs.Sheet.{Reading, bad, good}
use Rattle.reading.specs.declared.Start.{Start}
use Rattle.reading.specs.declared.BadLine.{BadLine}

-- the answer, with memory, page words and registers as they are left
abbrev pub as_reading : Result Start BadLine → List ℕ → List ℕ → List ℕ → Reading
as_reading (Err e) mem map regs = bad e.line mem map regs
as_reading (Ok s) mem map regs =
    good (record { mem = mem; map = map; regs = regs; pc = s.pc; code = s.code; mask = s.mask; budget = s.budget })
