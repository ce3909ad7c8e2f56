-- A sheet's answer (document 01, "The bench sheet"): the BAD line, or the run's outcome printed, with the page words that it altered.
use Rattle.std.specs.Prelude.{ℕ, List}
use Rattle.reading.specs.Setting.{Setting}
use Rattle.reading.specs.Sheet.{Reading, bad, good, reading_of}
use Rattle.printing.specs.Lines.{bad_line}
use Rattle.printing.specs.Answer.{answer_text}
use Rattle.machine.specs.Machine.{Given, Outcome, run_outcome}

-- the machine that a good sheet sets: P1, nonprivileged
abbrev pub machine_of : Setting → Given
machine_of h =
    record { mem = h.mem; map = h.map; regs = h.regs; pc = h.pc; code = h.code; mask = h.mask }

-- an outcome in text; `map` are the page words that the run began with
abbrev pub printed : List ℕ → Outcome → List ℕ
printed map o =
    answer_text o.reply.number o.reply.place o.reply.count o.reply.pc o.reply.code o.reply.mask o.regs map o.map

abbrev pub answer_to : Reading → List ℕ
answer_to (bad n mem map regs) = bad_line n
answer_to (good h) = printed h.map (run_outcome h.budget (machine_of h))

unfoldable pub answer_of : List ℕ → List ℕ
answer_of sheet = answer_to (reading_of sheet)
