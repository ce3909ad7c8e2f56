use mathlib.Core.Path.{sym, ◌∙◌}
use Rattle.pages.specs.Word.{next}
use Rattle.pages.proofs.LookLaws.{handed_on}
use Rattle.engine.proofs.Halfwords.{look_first, look_reached, look_second, look_both_lem}
use Rattle.engine.proofs.formats.look_half.Goals as goal

pub returns-in_err-first : goal.returns-in_err-first
returns-in_err-first c = let t = look_first _ _ _ _ c.look_up.ensures _ c.in_err-first.was in (handed_on _ _ c.from_residual.ensures.1 ∙ sym c.in_err-first.was ∙ t.0, t.1)

pub returns-then-first-ge2 : goal.returns-then-first-ge2
returns-then-first-ge2 c = look_reached _ _ _ _ c.look_up.ensures _ _ c.in_ok-first.was _ c.mark.ensures c.if-first-ge2.true

pub returns-in_err-look_up : goal.returns-in_err-look_up
unfolding next
returns-in_err-look_up c = let t = look_second _ _ _ _ c.look_up.ensures _ _ c.in_ok-first.was _ c.mark.ensures _ c.past_of-behind.ensures _ c.look_up-2.ensures _ c.in_err-look_up.was in (handed_on _ _ c.from_residual-in_err-look_up.ensures.1 ∙ sym c.in_err-look_up.was ∙ t.0, t.1)

pub returns : goal.returns
unfolding next
returns c = look_both_lem _ _ _ _ c.look_up.ensures _ _ c.in_ok-first.was _ c.mark.ensures _ c.past_of-behind.ensures _ c.look_up-2.ensures _ _ _ c.in_ok-look_up.was c.mark-2.ensures
