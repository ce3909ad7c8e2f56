-- The public entries: turned away, or what the step or the run comes to.
use Prim.Native.Nat.{ℕ, ◌<◌, ◌≤◌}
use mathlib.Core.Path.{◌≡◌, refl, sym, ◌∙◌, ap}
use mathlib.Core.Bool.{Bool, true, false}
use mathlib.Core.List.{List, []}
use borrow.Author.Tests.{le-leb, lt-leb}
use Rattle.pages.specs.Framed.{framed_of}
use Rattle.machine.specs.declared.Reply.{Reply}
use Rattle.machine.specs.Run.{run}
use Rattle.machine.specs.Step.{step}
use Rattle.machine.specs.Machine.{given, outcome, proper, turned_away, outcome_of, ops_for, step_outcome, run_outcome}
use Rattle.actions.specs.declared.Now.{Now}
use Rattle.actions.specs.declared.Stop.{Stop}
use Rattle.std.specs.Prelude.{Ok, Err}
use Rattle.actions.specs.Answered.{Out, cpu_of, told, doing}
use Rattle.engine.specs.declared.Ran.{Ran}
use Rattle.engine.specs.Entry.{step_reply, ran_reply, ran_as}

-- a step's answer, told, is its reply and what the lists hold
step_told : (c : Now) (out : Out) (mem map regs : List ℕ) → outcome (step_reply c out) mem map regs ≡ outcome_of (told out regs c (framed_of mem map))
unfolding told
step_told c (Ok n) mem map regs = refl
step_told c (Err k) mem map regs = refl

module _ (mem map regs : List ℕ) (pc code mask : ℕ) where
  pub step_fine : (b : Bool) (q : Reply) (out : Out) (mem' map' regs' : List ℕ) → b ≡ proper (given mem map regs pc code mask) → b ≡ true
      → told out regs' (record { pc = pc; code = code; mask = mask }) (framed_of mem' map')
      ≡ doing step regs (record { pc = pc; code = code; mask = mask }) (framed_of mem map)
      → q ≡ step_reply (record { pc = pc; code = code; mask = mask }) out
      → outcome q mem' map' regs' ≡ step_outcome (given mem map regs pc code mask)
  unfolding step_outcome
  step_fine b q out mem' map' regs' eb p t eq =
      ap (λ (x : Reply). outcome x mem' map' regs') eq
      ∙ step_told (record { pc = pc; code = code; mask = mask }) out mem' map' regs'
      ∙ ap outcome_of t
      ∙ rw (sym eb ∙ p)

  pub step_away : (b : Bool) (r : Reply) → b ≡ proper (given mem map regs pc code mask) → b ≡ false
      → r ≡ (turned_away (given [] [] [] pc code mask)).reply → outcome r mem map regs ≡ step_outcome (given mem map regs pc code mask)
  unfolding step_outcome
  step_away b r eb p er = rw (sym eb ∙ p) (ap (λ (x : Reply). outcome x mem map regs) er)

  module _ (budget : ℕ) where
    pub run_fine : (b : Bool) (q : Reply) (ran : Ran Stop) (mem' map' regs' : List ℕ)
        → b ≡ proper (given mem map regs pc code mask) → b ≡ true → budget ≤ 65535
        → ran_as ran regs' (framed_of mem' map')
        ≡ run ops_for step budget (cpu_of regs (record { pc = pc; code = code; mask = mask })) (framed_of mem map)
        → q ≡ ran_reply ran
        → outcome q mem' map' regs' ≡ run_outcome budget (given mem map regs pc code mask)
    unfolding run_outcome
    run_fine b q ran mem' map' regs' eb p h t eq =
        ap (λ (x : Reply). outcome x mem' map' regs') eq
        ∙ ap outcome_of t
        ∙ rw (sym eb ∙ p, le-leb budget 65535 h)

    pub run_long : (b : Bool) (r : Reply) → b ≡ proper (given mem map regs pc code mask) → b ≡ true → 65535 < budget
        → r ≡ (turned_away (given [] [] [] pc code mask)).reply → outcome r mem map regs ≡ run_outcome budget (given mem map regs pc code mask)
    unfolding run_outcome
    run_long b r eb p h er = rw (sym eb ∙ p, lt-leb budget 65535 h) (ap (λ (x : Reply). outcome x mem map regs) er)

    pub run_away : (b : Bool) (r : Reply) → b ≡ proper (given mem map regs pc code mask) → b ≡ false
        → r ≡ (turned_away (given [] [] [] pc code mask)).reply → outcome r mem map regs ≡ run_outcome budget (given mem map regs pc code mask)
    unfolding run_outcome
    run_away b r eb p er = rw (sym eb ∙ p) (ap (λ (x : Reply). outcome x mem map regs) er)
