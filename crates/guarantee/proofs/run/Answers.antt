use Rattle.demand.proofs.Calls.{run_clean, run_pages}
use Rattle.guarantee.proofs.run.Goals as goal

pub returns : goal.returns
returns c = record { whole = c.run.ensures; clean = run_clean _ _ _ c.run.ensures; pages = run_pages _ _ _ c.run.ensures }
