use Rattle.std.proofs.Common.{sym, refl, ◌∙◌}
use Rattle.pages.proofs.LookLaws.{handed_on}
use Rattle.pages.proofs.ReachLaws.{reach_some}
use Rattle.fields.proofs.ByteLoops.{look_stop, look_none}
use Rattle.fields.proofs.Pieces.{piece_within, piece_reached, piece_some, piece_less}
use Rattle.fields.proofs.Reached.{reach_on}
use Rattle.fields.proofs.look_field.Goals as goal

pub loop-left-init : goal.loop-left-init
loop-left-init c = λ rest. refl

pub overflow_sub-left : goal.overflow_sub-left
overflow_sub-left c = piece_within _ _ _ c.fewer_of-step.ensures

pub loop-left-smaller : goal.loop-left-smaller
loop-left-smaller c = piece_less _ _ _ c.fewer_of-step.ensures c.loop-left-test.true (reach_some _ _ _ _ _ _ (sym c.in_ok-found.ensures))

pub loop-left-preserved : goal.loop-left-preserved
loop-left-preserved c = λ rest. rw c.past_of-at.ensures (c.loop-left.invariant rest ∙ reach_on _ _ _ _ _ _ (sym c.in_ok-found.ensures) _ _ _ (piece_some _ _ _ c.fewer_of-step.ensures c.loop-left-test.true (reach_some _ _ _ _ _ _ (sym c.in_ok-found.ensures))) (piece_within _ _ _ c.fewer_of-step.ensures) (piece_reached _ _ _ c.fewer_of-step.ensures))

pub returns-in_err-found : goal.returns-in_err-found
returns-in_err-found c = rw (handed_on _ _ c.from_residual.ensures.1) (λ rest. c.loop-left.invariant rest ∙ sym (look_stop _ _ _ _ rest _ c.in_err-found.ensures _ c.loop-left-test.true _ _ refl))

pub returns : goal.returns
returns c = λ rest. c.loop-left.invariant rest ∙ look_none _ c.loop-left-test.false _ _ _ _ _
