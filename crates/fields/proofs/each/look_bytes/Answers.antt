use Rattle.std.proofs.Common.{sym, refl, ◌∙◌}
use Rattle.pages.specs.Word.{next}
use Rattle.pages.proofs.LookLaws.{handed_on}
use Rattle.fields.specs.Direct.{look_one}
use Rattle.fields.proofs.ByteLoops.{none_done, one_done, some_left, all_done, look_stop, look_found, look_none}
use Rattle.fields.proofs.each.look_bytes.Goals as goal

pub loop-init : goal.loop-init
loop-init c = λ rest. rw (none_done c.args.len) refl

pub returns-in_err-look_up : goal.returns-in_err-look_up
unfolding look_one
returns-in_err-look_up c = handed_on _ _ c.from_residual.ensures.1 ∙ look_stop _ _ _ _ _ _ c.in_err-look_up.ensures _ (some_left _ _ c.loop-test.true) _ _ refl ∙ sym (c.loop.invariant _)

pub loop-preserved : goal.loop-preserved
unfolding next
loop-preserved c = λ rest. rw (one_done c.args.len c.loop.counter) (c.loop.invariant rest ∙ look_found _ _ _ _ _ _ c.in_ok-look_up.ensures _ (some_left _ _ c.loop-test.true) _ _ refl _ c.past_of-a.ensures)

pub returns : goal.returns
unfolding look_one
returns c = c.look_up-2.ensures ∙ sym (c.loop.invariant _ ∙ look_none _ (all_done _ _ c.loop-test.false) _ _ _ _ _)
