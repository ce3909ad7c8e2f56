use Rattle.engine.proofs.Texts.{unknown_stop}
use Rattle.actions.specs.Whole.{whole}
use Rattle.actions.proofs.Executed.{answered}
use Rattle.engine.proofs.formats.finish.Goals as goal

pub returns-in_default : goal.returns-in_default
returns-in_default c = unknown_stop _ _ _ _ _ _ _ _ c.action_of.ensures c.in_default.is

pub returns-in-Rr : goal.returns-in-Rr
unfolding whole
returns-in-Rr c = rw (← c.action_of.ensures, c.in-Some.is, c.in-Rr.is) (answered _ _ _ _ _ _ c.execute.ensures)

pub returns-in-Rx : goal.returns-in-Rx
unfolding whole
returns-in-Rx c = rw (← c.action_of.ensures, c.in-Some.is, c.in-Rx.is, ← c.split_rx.ensures) c.execute-in-Rx.ensures

pub returns-in-Rs : goal.returns-in-Rs
unfolding whole
returns-in-Rs c = rw (← c.action_of.ensures, c.in-Some.is, c.in-Rs.is, ← c.split_rs.ensures) c.execute-in-Rs.ensures

pub returns-in-Si : goal.returns-in-Si
unfolding whole
returns-in-Si c = rw (← c.action_of.ensures, c.in-Some.is, c.in-Si.is, ← c.split_si.ensures) c.execute-in-Si.ensures

pub returns-in-Ss : goal.returns-in-Ss
unfolding whole
returns-in-Ss c = rw (← c.action_of.ensures, c.in-Some.is, c.in-Ss.is, ← c.split_ss.ensures) c.execute-in-Ss.ensures
