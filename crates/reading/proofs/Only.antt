-- No second answer meets the contract of `read_sheet`: the answer and the lists can be told from what they stand for.
use mathlib.Core.Path.{◌≡◌, refl, sym, ap, ◌∙◌}
use mathlib.Core.List.{List}
use Prim.Native.Nat.{ℕ}
use Rattle.reading.specs.Sheet.{Reading, bad, good}
use Rattle.reading.specs.Answered.{as_reading}
use Rattle.reading.specs.declared.Start.{Start}
use Rattle.reading.specs.declared.BadLine.{BadLine}
use Rattle.std.proofs.Common.{Result, Ok, Err}

abbrev Answer : Type 0
Answer = Result Start BadLine

abbrev answer_of : Reading → Answer
answer_of (bad n mem map regs) = Err (record { line = n })
answer_of (good s) = Ok (record { pc = s.pc; code = s.code; mask = s.mask; budget = s.budget })

abbrev mem_of : Reading → List ℕ
mem_of (bad n mem map regs) = mem
mem_of (good s) = s.mem

abbrev map_of : Reading → List ℕ
map_of (bad n mem map regs) = map
map_of (good s) = s.map

abbrev regs_of : Reading → List ℕ
regs_of (bad n mem map regs) = regs
regs_of (good s) = s.regs

module _ (mem map regs : List ℕ) where
  answer_back : (r : Answer) → answer_of (as_reading r mem map regs) ≡ r
  answer_back (Err e) = refl
  answer_back (Ok s) = refl

  mem_back : (r : Answer) → mem_of (as_reading r mem map regs) ≡ mem
  mem_back (Err e) = refl
  mem_back (Ok s) = refl

  map_back : (r : Answer) → map_of (as_reading r mem map regs) ≡ map
  map_back (Err e) = refl
  map_back (Ok s) = refl

  regs_back : (r : Answer) → regs_of (as_reading r mem map regs) ≡ regs
  regs_back (Err e) = refl
  regs_back (Ok s) = refl

module _ (r r' : Answer) (mem mem' map map' regs regs' : List ℕ) (e : as_reading r mem map regs ≡ as_reading r' mem' map' regs') where
  pub one_answer : (r ≡ r') × (mem ≡ mem') × (map ≡ map') × (regs ≡ regs')
  one_answer = (
    sym (answer_back mem map regs r) ∙ ap answer_of e ∙ answer_back mem' map' regs' r',
    sym (mem_back mem map regs r) ∙ ap mem_of e ∙ mem_back mem' map' regs' r',
    sym (map_back mem map regs r) ∙ ap map_of e ∙ map_back mem' map' regs' r',
    sym (regs_back mem map regs r) ∙ ap regs_of e ∙ regs_back mem' map' regs' r',
  )
