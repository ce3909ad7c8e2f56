-- Pairs of registers: the test of an odd one, and what multiply and divide answer, in the terms that the code has in hand.
use Prim.Native.Nat.{ℕ, ◌+◌, ◌/◌, ◌%◌}
use mathlib.Core.Path.{◌≡◌, refl, ◌∙◌, ap, subst}
use mathlib.Core.List.{List}
use borrow.Author.Tests.{eq-eqb, ne_eqb}
use lib.ListN.{get_or, set}
use Rattle.std.specs.Prelude.{Ok}
use Rattle.words.specs.declared.PairOp.{PairOp}
use Rattle.words.specs.Wide.{Paired, no_quotient, pair_of}
use Rattle.code.specs.declared.RrAction.TheVariants.{PairAndRegister}
use Rattle.code.specs.declared.RrFields.{RrFields}
use Rattle.code.specs.Formats.{rr_of}
use Rattle.machine.specs.Prog.{Prog, done, fail}
use Rattle.machine.specs.Cpu.{Cpu, reg, ahead}
use Rattle.machine.specs.Pairs.{pair, even_only, into_pair}
use Rattle.machine.specs.Rr.{rr}
use Rattle.actions.specs.declared.Now.{Now}
use Rattle.std.specs.Prelude.{Ok, Err}
use Rattle.actions.specs.declared.Stop.{Stop}
use Rattle.actions.specs.declared.Stop.TheVariants.{Boundary, Divide}
use Rattle.actions.specs.Answered.{Out, number, place, cpu_of, AnswersTo}

pub odd_pair : (r : ℕ) (c : Cpu) (k : Prog Cpu) → (r % 2 ≡ 0 → ⊥) → fail 2 c.pc ≡ even_only r c k
odd_pair r c k h = rw (ne_eqb (r % 2) 0 h)

pub even_pair : (r : ℕ) (c : Cpu) (k : Prog Cpu) → r % 2 ≡ 0 → k ≡ even_only r c k
even_pair r c k h = rw (eq-eqb (r % 2) 0 h)

-- an answer to a program is one to what is the same program
pub answers_same : (o : Out) (regs regs' : List ℕ) (p q : Prog Cpu) → p ≡ q → AnswersTo o regs regs' p → AnswersTo o regs regs' q
answers_same o regs regs' p q e h = subst (λ (x : Prog Cpu). AnswersTo o regs regs' x) e h

pub stop_answers : (k : Stop) (regs : List ℕ) (p : Prog Cpu) → fail (number k) (place k) ≡ p → AnswersTo (Err k) regs regs p
unfolding AnswersTo
stop_answers k regs p e = (e, refl)

pub done_answers : (n : Now) (regs regs' : List ℕ) (p : Prog Cpu) → done (cpu_of regs' n) ≡ p → AnswersTo (Ok n) regs regs' p
unfolding AnswersTo
done_answers n regs regs' p e = e

-- w is the pair's double word, and p what is made of it
module _ (regs : List ℕ) (c : Now) (op : PairOp) (r b len w : ℕ) (p : Paired) (ew : w ≡ pair (cpu_of regs c) r) (ep : p ≡ pair_of op w b) where
  pub work_stops : p ≡ no_quotient
      → AnswersTo (Err (Divide c.pc)) regs regs (into_pair (pair_of op (pair (cpu_of regs c) r) b) len r (cpu_of regs c))
  unfolding into_pair
  work_stops e = stop_answers (Divide c.pc) regs _ (rw (← ew, ← ep, e))

  pub work_ends : (v next : ℕ) (regs' : List ℕ) → p ≡ Ok v → next ≡ ahead (cpu_of regs c) len
      → regs' ≡ set (set regs r (v / 4294967296)) (r + 1) (v % 4294967296)
      → AnswersTo (Ok (record { pc = next; code = c.code; mask = c.mask })) regs regs'
      (into_pair (pair_of op (pair (cpu_of regs c) r) b) len r (cpu_of regs c))
  unfolding into_pair
  work_ends v next regs' e en er = done_answers _ regs regs' _ (rw (← ew, ← ep, e, en, er))

-- MR DR: f are the fields of h
module _ (regs : List ℕ) (c : Now) (op : PairOp) (f : RrFields) (h : ℕ) (ef : f ≡ rr_of h) where
  split : (o : Out) (regs' : List ℕ) → AnswersTo o regs regs' (rr (PairAndRegister op) f (cpu_of regs c))
      → AnswersTo o regs regs' (rr (PairAndRegister op) (rr_of h) (cpu_of regs c))
  split o regs' k =
      answers_same o regs regs' _ _ (ap (λ (g : RrFields). rr (PairAndRegister op) g (cpu_of regs c)) ef) k

  pub rr_odd : (f.r1 % 2 ≡ 0 → ⊥) → AnswersTo (Err (Boundary c.pc)) regs regs (rr (PairAndRegister op) (rr_of h) (cpu_of regs c))
  unfolding rr
  rr_odd l = split (Err (Boundary c.pc)) regs (stop_answers (Boundary c.pc) regs _ (odd_pair f.r1 (cpu_of regs c) _ l))

  pub rr_even : (b : ℕ) (o : Out) (regs' : List ℕ) → f.r1 % 2 ≡ 0 → b ≡ get_or regs f.r2 0
      → AnswersTo o regs regs' (into_pair (pair_of op (pair (cpu_of regs c) f.r1) b) 2 f.r1 (cpu_of regs c))
      → AnswersTo o regs regs' (rr (PairAndRegister op) (rr_of h) (cpu_of regs c))
  unfolding rr reg
  rr_even b o regs' l eb k =
      split o regs'
      (answers_same o regs regs' _ _
      (ap (λ (x : ℕ). into_pair (pair_of op (pair (cpu_of regs c) f.r1) x) 2 f.r1 (cpu_of regs c)) eb
      ∙ even_pair f.r1 (cpu_of regs c) _ l)
      k)
