use Rattle.std.proofs.lemmas.Result.{err_from_is_err_and}
use Rattle.engine.proofs.Texts.{step_odd, step_stop, step_whole}
use Rattle.engine.proofs.stepping.step_once.Goals as goal

pub returns-then-pc-eq1 : goal.returns-then-pc-eq1
returns-then-pc-eq1 c = step_odd _ _ _ _ c.if-pc-eq1.true

pub returns-in_err-text : goal.returns-in_err-text
returns-in_err-text c = let p = err_from_is_err_and c.from_residual.result c.from_residual.ensures.1 in rw (p.1, p.2) (step_stop _ _ _ _ c.if-pc-eq1.false _ _ c.text.ensures _ c.in_err-text.was)

pub returns : goal.returns
returns c = step_whole _ _ _ _ c.if-pc-eq1.false _ _ c.text.ensures _ c.in_ok-text.was _ c.finish.ensures
