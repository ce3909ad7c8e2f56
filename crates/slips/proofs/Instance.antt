-- The argument spelt out for one row, the first of specs/Refusals: whatever meets the promise of `engine::step` is not the machine that
-- notes W for a store that it refuses. Every other row goes the same way.
use mathlib.Core.Path.{◌≡◌}
use Rattle.machine.specs.Step.{step}
use Rattle.machine.specs.Machine.{Given, Outcome, step_outcome}
use Rattle.slips.specs.Seen.{seen, step_leaving}
use Rattle.slips.specs.Refusals.{written_anyway, slips, storing}
use Rattle.slips.proofs.Argument.{not_slipped, differ}
use Rattle.slips.proofs.Shown.{refusals_shown}

module _ (engine : Given → Outcome) (promise : (g : Given) → engine g ≡ step_outcome g) where
  pub not_written_anyway : ((g : Given) → engine g ≡ step_leaving written_anyway step g) → ⊥
  not_written_anyway =
      not_slipped engine step_outcome (step_leaving written_anyway step) promise storing seen (differ slips refusals_shown).0
