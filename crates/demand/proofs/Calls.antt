-- Demands 1 and 3 of a call: whoever holds the promise of a step or a run, that what is handed back is the definition's outcome, has both.
use Prim.Native.Nat.{ℕ}
use mathlib.Core.Path.{◌≡◌, sym, subst}
use Rattle.machine.specs.Machine.{Given, Outcome, cpu_in, step_outcome, run_outcome}
use Rattle.demand.specs.Plain.{plain_step, plain_run}
use Rattle.demand.specs.DemandOne.{CleanStep, CleanRun}
use Rattle.demand.specs.DemandThree.{PagesKeep}
use Rattle.demand.proofs.DemandOneHolds.{steps_are_clean, runs_are_clean}
use Rattle.demand.proofs.DemandThreeHolds.{steps_keep_pages, runs_keep_pages}

pub run_clean : (budget : ℕ) (g : Given) (o : Outcome) → o ≡ run_outcome budget g → CleanRun budget g o
run_clean budget g o e = subst (CleanRun budget g) (sym e) (runs_are_clean budget g)

pub step_clean : (g : Given) (o : Outcome) → o ≡ step_outcome g → CleanStep g o
step_clean g o e = subst (CleanStep g) (sym e) (steps_are_clean g)

pub run_pages : (budget : ℕ) (g : Given) (o : Outcome) → o ≡ run_outcome budget g → PagesKeep g o (plain_run budget (cpu_in g))
run_pages budget g o e = subst (λ (x : Outcome). PagesKeep g x (plain_run budget (cpu_in g))) (sym e) (runs_keep_pages budget g)

pub step_pages : (g : Given) (o : Outcome) → o ≡ step_outcome g → PagesKeep g o (plain_step (cpu_in g))
step_pages g o e = subst (λ (x : Outcome). PagesKeep g x (plain_step (cpu_in g))) (sym e) (steps_keep_pages g)
