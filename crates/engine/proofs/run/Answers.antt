use Rattle.engine.proofs.Entries.{run_fine, run_long, run_away}
use Rattle.engine.proofs.run.Goals as goal
use Rattle.engine.proofs.run.Goals.{else-is_proper-via-then-is_proper+else-budget-le65535, else-is_proper-via-else-is_proper}

pub returns-then-budget-le65535 : goal.returns-then-budget-le65535
returns-then-budget-le65535 c = run_fine _ _ _ _ _ _ _ _ _ _ _ _ _ c.is_proper.ensures c.if-is_proper.true c.if-budget-le65535.true c.run_steps-ran.ensures.0 c.run_reply.ensures

pub returns : goal.returns
returns c =
    elim c.else-is_proper.branch [
      | else-is_proper-via-then-is_proper+else-budget-le65535 w ↦ run_long _ _ _ _ _ _ _ _ _ c.is_proper.ensures w.if-is_proper.true w.if-budget-le65535.false c.away.ensures
      | else-is_proper-via-else-is_proper w ↦ run_away _ _ _ _ _ _ _ _ _ c.is_proper.ensures w.if-is_proper.false c.away.ensures
    ]
