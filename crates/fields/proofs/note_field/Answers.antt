use Rattle.std.proofs.Common.{sym, refl, ◌∙◌}
use Rattle.fields.proofs.ByteLoops.{note_none}
use Rattle.fields.proofs.MarkedOnce.{note_on, page_some}
use Rattle.fields.proofs.Pieces.{piece_within, piece_reached, piece_some, piece_less}
use Rattle.fields.proofs.note_field.Goals as goal

pub loop-left-init : goal.loop-left-init
loop-left-init c = (refl, refl)

pub overflow_sub-left : goal.overflow_sub-left
overflow_sub-left c = (piece_within _ _ _ c.fewer_of-step.ensures)

pub loop-left-smaller : goal.loop-left-smaller
loop-left-smaller c = piece_less _ _ _ c.fewer_of-step.ensures c.loop-left-test.true (page_some _ _ c.in_page.ensures)

pub loop-left-preserved : goal.loop-left-preserved
loop-left-preserved c = (rw c.past_of-to.ensures (c.loop-left.invariant.0 ∙ note_on _ _ _ _ _ (piece_some _ _ _ c.fewer_of-step.ensures c.loop-left-test.true (page_some _ _ c.in_page.ensures)) (piece_within _ _ _ c.fewer_of-step.ensures) (rw (← c.in_page.ensures) (piece_reached _ _ _ c.fewer_of-step.ensures)) c.mark.ensures), c.mark.auto.map ∙ c.loop-left.invariant.1)

pub shape_of-map : goal.shape_of-map
shape_of-map c = c.loop-left.invariant.1

pub returns : goal.returns
returns c = sym (c.loop-left.invariant.0 ∙ note_none _ c.loop-left-test.false _ _)
