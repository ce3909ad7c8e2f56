-- A sheet's answer, by what the reader found.
use Prim.Native.Nat.{ℕ}
use mathlib.Core.Path.{◌≡◌, ◌∙◌, ap}
use mathlib.Core.List.{List}
use lib.ListN.{replicate}
use Rattle.reading.specs.Sheet.{reading_of, read_onto}
use Rattle.reading.specs.Answered.{as_reading}
use Rattle.reading.specs.declared.BadLine.{BadLine}
use Rattle.reading.specs.declared.Start.{Start}
use Rattle.std.proofs.Common.{Result, Ok, Err}
use Rattle.printing.specs.declared.Text.{Text}
use Rattle.printing.specs.Lines.{bad_line}
use Rattle.printing.specs.Answer.{answer_text, text_of}
use Rattle.machine.specs.declared.Reply.{Reply}
use Rattle.machine.specs.Machine.{Outcome, given, outcome, run_outcome}
use Rattle.sheet.specs.Sheet.{answer_of, printed}

module _ (sheet mem map regs : List ℕ) (r : Result Start BadLine) (e : as_reading r mem map regs ≡ read_onto (replicate 65536 0) (replicate 512 0) (replicate 16 0) sheet) where
  pub bad_answer : (n : ℕ) (t : Text) → r ≡ Err (record { line = n }) → t ≡ text_of (bad_line n) → t ≡ text_of (answer_of sheet)
  unfolding answer_of reading_of
  bad_answer n t f b = b ∙ rw (← e, f)

  pub good_answer : (s : Start) (t : Text) (q : Reply) (mem' map' regs' : List ℕ) → r ≡ Ok s
      → outcome q mem' map' regs' ≡ run_outcome s.budget (given mem map regs s.pc s.code s.mask)
      → t ≡ text_of (answer_text q.number q.place q.count q.pc q.code q.mask regs' map map')
      → t ≡ text_of (answer_of sheet)
  unfolding answer_of reading_of
  good_answer s t q mem' map' regs' f o b =
      b
      ∙ rw (← e, f)
      (ap (λ (x : Outcome). text_of (printed map x)) o)
