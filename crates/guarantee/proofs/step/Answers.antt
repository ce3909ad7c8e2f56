use Rattle.demand.proofs.Calls.{step_clean, step_pages}
use Rattle.guarantee.proofs.step.Goals as goal

pub returns : goal.returns
returns c = record { whole = c.step.ensures; clean = step_clean _ _ c.step.ensures; pages = step_pages _ _ c.step.ensures }
