use Rattle.std.proofs.lemmas.Result.{err_from_is_err_and}
use Rattle.engine.proofs.Texts.{stop_first, stop_second, stop_third, whole_text}
use Rattle.engine.proofs.formats.text_each.Goals as goal

pub returns-in_err-h1 : goal.returns-in_err-h1
returns-in_err-h1 c = let p = err_from_is_err_and c.from_residual.result c.from_residual.ensures.1 in rw p.1 (stop_first c.args.mem.now _ _ _ _ c.half_at.ensures _ _ c.in_err-h1.was p.2)

pub returns-in_err-h2 : goal.returns-in_err-h2
returns-in_err-h2 c = let p = err_from_is_err_and c.from_residual-in_err-h2.result c.from_residual-in_err-h2.ensures.1 in rw p.1 (stop_second c.args.mem.now _ _ _ _ c.half_at.ensures _ c.in_ok-h1.was _ c.halves_of-n.ensures _ c.past_of.ensures _ _ c.half_at-2.ensures _ _ c.in_err-h2.was p.2)

pub returns-in_err-h3 : goal.returns-in_err-h3
returns-in_err-h3 c = let p = err_from_is_err_and c.from_residual-in_err-h3.result c.from_residual-in_err-h3.ensures.1 in rw p.1 (stop_third c.args.mem.now _ _ _ _ c.half_at.ensures _ c.in_ok-h1.was _ c.halves_of-n.ensures _ c.past_of.ensures _ _ c.half_at-2.ensures _ c.in_ok-h2.was _ c.past_of-2.ensures _ _ c.half_at-3.ensures _ _ c.in_err-h3.was p.2)

pub returns : goal.returns
returns c = whole_text c.args.mem.now _ _ _ _ c.half_at.ensures _ c.in_ok-h1.was _ c.halves_of-n.ensures _ c.past_of.ensures _ _ c.half_at-2.ensures _ c.in_ok-h2.was _ c.past_of-2.ensures _ _ c.half_at-3.ensures _ c.in_ok-h3.was
