use Rattle.std.proofs.Common.{sym, refl, ◌∙◌}
use Rattle.pages.specs.Word.{next}
use Rattle.fields.proofs.ByteLoops.{none_done, one_done, some_left, all_done, compare_turn, compare_none, compare_low, compare_high}
use Rattle.fields.proofs.each.compare_bytes.Goals as goal

pub loop-init : goal.loop-init
loop-init c = rw (none_done c.args.len) refl

pub returns-then-x-y : goal.returns-then-x-y
returns-then-x-y c = compare_low _ _ _ _ _ c.read_byte-x.ensures c.read_byte-y.ensures _ (some_left _ _ c.loop-test.true) c.if-x-y.true ∙ sym c.loop.invariant

pub returns-then-y-x : goal.returns-then-y-x
returns-then-y-x c = compare_high _ _ _ _ _ c.read_byte-x.ensures c.read_byte-y.ensures _ (some_left _ _ c.loop-test.true) c.if-y-x.true ∙ sym c.loop.invariant

pub loop-preserved : goal.loop-preserved
unfolding next
loop-preserved c = rw (one_done c.args.len c.loop.counter, c.past_of-a.ensures, c.past_of-b.ensures) (c.loop.invariant ∙ compare_turn _ _ _ _ _ c.read_byte-x.ensures c.read_byte-y.ensures _ (some_left _ _ c.loop-test.true) c.if-x-y.false c.if-y-x.false)

pub returns : goal.returns
returns c = sym (c.loop.invariant ∙ compare_none _ (all_done _ _ c.loop-test.false) _ _ _)
