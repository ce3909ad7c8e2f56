use Rattle.engine.proofs.Entries.{step_fine, step_away}
use Rattle.engine.proofs.step.Goals as goal

pub returns-then-is_proper : goal.returns-then-is_proper
returns-then-is_proper c = step_fine _ _ _ _ _ _ _ _ _ _ _ _ c.is_proper.ensures c.if-is_proper.true c.step_once-out.ensures c.step_reply.ensures

pub returns : goal.returns
returns c = step_away _ _ _ _ _ _ _ _ c.is_proper.ensures c.if-is_proper.false c.away.ensures
