use Rattle.std.proofs.Common.{sym, refl, ◌∙◌}
use Rattle.pages.specs.Word.{next}
use Rattle.fields.proofs.ByteLoops.{none_done, one_done, some_left, all_done, move_turn, move_none}
use Rattle.fields.proofs.each.move_bytes.Goals as goal

pub loop-init : goal.loop-init
loop-init c = (rw (none_done c.args.len) refl, refl, refl)

pub loop-preserved : goal.loop-preserved
unfolding next
loop-preserved c = (rw (one_done c.args.len c.loop.counter, c.write_byte.ensures, c.read_byte-v.ensures, c.past_of-a.ensures, c.past_of-b.ensures) (c.loop.invariant.0 ∙ move_turn _ _ _ _ (some_left _ _ c.loop-test.true)), c.write_byte.auto.mem ∙ c.loop.invariant.1, c.write_byte.auto.map ∙ c.loop.invariant.2)

pub shape_of-mem : goal.shape_of-mem
shape_of-mem c = c.loop.invariant.1

pub shape_of-map : goal.shape_of-map
shape_of-map c = c.loop.invariant.2

pub returns : goal.returns
returns c = sym (c.loop.invariant.0 ∙ move_none _ (all_done _ _ c.loop-test.false) _ _ _)
