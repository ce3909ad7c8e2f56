use Rattle.std.proofs.Common.{sym, refl, ◌∙◌}
use Rattle.pages.specs.Word.{next}
use Rattle.fields.proofs.ByteLoops.{none_done, one_done, some_left, all_done, note_turn, note_none}
use Rattle.fields.proofs.each.note_bytes.Goals as goal

pub loop-init : goal.loop-init
loop-init c = (rw (none_done c.args.len) refl, refl)

pub loop-preserved : goal.loop-preserved
unfolding next
loop-preserved c = (rw (one_done c.args.len c.loop.counter) (c.loop.invariant.0 ∙ note_turn _ _ _ (some_left _ _ c.loop-test.true) _ c.mark.ensures _ c.past_of-a.ensures), c.mark.auto.map ∙ c.loop.invariant.1)

pub shape_of-map : goal.shape_of-map
shape_of-map c = c.loop.invariant.1

pub returns : goal.returns
returns c = sym (c.loop.invariant.0 ∙ note_none _ (all_done _ _ c.loop-test.false) _ _)
