-- SLA SRA SLDA SRDA: what the code has in hand where it returns is what the definitions say.
use Prim.Native.Nat.{ℕ, ◌+◌, ◌/◌, ◌%◌}
use mathlib.Core.Path.{◌≡◌}
use mathlib.Core.List.{List}
use Rattle.std.specs.Prelude.{Ok, Err}
use lib.ListN.{get_or, set}
use Rattle.words.specs.declared.Direction.{Direction}
use Rattle.words.specs.declared.Res.{Res}
use Rattle.words.specs.Whole.{word_top, double_top}
use Rattle.words.specs.SignedShifts.{shifted_of}
use Rattle.code.specs.declared.RsFields.{RsFields}
use Rattle.code.specs.declared.RsAction.TheVariants.{ShiftSigned, ShiftDouble}
use Rattle.machine.specs.Prog.{done}
use Rattle.machine.specs.Cpu.{reg, ahead}
use Rattle.machine.specs.Pairs.{pair}
use Rattle.machine.specs.Rs.{rs, rs_address, shifted_word, shifted_pair}
use Rattle.actions.specs.declared.Now.{Now}
use Rattle.actions.specs.declared.Stop.TheVariants.{Boundary}
use Rattle.actions.specs.Answered.{cpu_of, AnswersTo}
use Rattle.actions.proofs.OnPairs.{odd_pair, even_pair, stop_answers, done_answers}

module _ (regs : List ℕ) (c : Now) (to : Direction) (f : RsFields) where
  pub shift_odd : (f.r1 % 2 ≡ 0 → ⊥) → AnswersTo (Err (Boundary c.pc)) regs regs (rs (ShiftDouble to) f (cpu_of regs c))
  unfolding rs
  shift_odd l = stop_answers (Boundary c.pc) regs _ (odd_pair f.r1 (cpu_of regs c) _ l)

  -- n is the amount, x what is shifted, r the result
  module _ (n x next : ℕ) (r : Res ℕ) (regs' : List ℕ) (en : n ≡ rs_address f (cpu_of regs c)) (ep : next ≡ ahead (cpu_of regs c) 4) where
    pub shift_word : x ≡ get_or regs f.r1 0 → r ≡ shifted_of to word_top x n → regs' ≡ set regs f.r1 r.value
        → done (cpu_of regs' (record { pc = next; code = r.code; mask = c.mask })) ≡ rs (ShiftSigned to) f (cpu_of regs c)
    unfolding rs shifted_word reg
    shift_word ex er eg = rw (eg, er, ex, en, ep)

    pub shift_pair : f.r1 % 2 ≡ 0 → x ≡ pair (cpu_of regs c) f.r1 → r ≡ shifted_of to double_top x n
        → regs' ≡ set (set regs f.r1 (r.value / 4294967296)) (f.r1 + 1) (r.value % 4294967296)
        → AnswersTo (Ok (record { pc = next; code = r.code; mask = c.mask })) regs regs' (rs (ShiftDouble to) f (cpu_of regs c))
    unfolding rs shifted_pair
    shift_pair l ex er eg =
        done_answers _ regs regs' _ (rw (eg, er, ex, en, ep) (even_pair f.r1 (cpu_of regs c) _ l))
