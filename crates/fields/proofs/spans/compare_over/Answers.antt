use Rattle.std.proofs.Common.{sym, ◌∙◌, arith}
use Rattle.fields.specs.Direct.{compare_field}
use Rattle.fields.proofs.BothLooked.{order_yes}
use Rattle.fields.proofs.Spanned.{spans_both, spans_paged, noted_spans, step_is, compare_is, piece_some, piece_left, first_room, second_room, spot_low, compared_unlike, compared_alike, begun, all_alike}
use Rattle.fields.proofs.spans.compare_over.Goals as goal

pub span_of-requires : goal.span_of-requires
span_of-requires c = (c.requires.0, c.requires.1)

pub span_of-requires-2 : goal.span_of-requires-2
span_of-requires-2 c = (c.requires.0, c.requires.2)

pub note_span-requires : goal.note_span-requires
note_span-requires c = let p = c.in-Some.ensures.0 in spans_paged _ _ _ _ _ _ c.requires.0 p.0 p.1

pub note_span-requires-2 : goal.note_span-requires-2
note_span-requires-2 c = let p = c.in-Some-span_of.ensures.0 in spans_paged _ _ _ _ _ _ c.requires.0 p.0 p.1

pub loop-i-init : goal.loop-i-init
loop-i-init c = (begun (compare_field _) _ _ _ _ _ _ _ _ c.in-Some.ensures.0.1 c.in-Some-span_of.ensures.0.1, omega arith, noted_spans _ _ _ _ _ _ _ c.note_span.ensures c.note_span-2.ensures _ _ _ _ c.in-Some.ensures.0.1, noted_spans _ _ _ _ _ _ _ c.note_span.ensures c.note_span-2.ensures _ _ _ _ c.in-Some-span_of.ensures.0.1)

pub rest_of-requires : goal.rest_of-requires
rest_of-requires c = c.loop-i.invariant.1

pub rest_of-requires-in-loop-i : goal.rest_of-requires-in-loop-i
rest_of-requires-in-loop-i c = c.loop-i.invariant.1

pub spot_of-requires : goal.spot_of-requires
spot_of-requires c = omega (arith, spot_low _ _ _ _ _ _ c.loop-i.invariant.2 _ c.loop-i-test.true)

pub spot_of-requires-in-loop-i : goal.spot_of-requires-in-loop-i
spot_of-requires-in-loop-i c = omega (arith, spot_low _ _ _ _ _ _ c.loop-i.invariant.3 _ c.loop-i-test.true)

pub compare_flat-code-requires : goal.compare_flat-code-requires
compare_flat-code-requires c = let e = step_is _ _ _ _ _ _ _ c.fewer_of-step.ensures c.rest_of.ensures c.rest_of-in-loop-i.ensures in (rw c.spot_of.ensures (first_room _ _ _ _ _ _ _ _ c.loop-i.invariant.2 c.loop-i.invariant.3 _ _ c.loop-i-test.true e), rw c.spot_of-in-loop-i.ensures (second_room _ _ _ _ _ _ _ _ c.loop-i.invariant.2 c.loop-i.invariant.3 _ _ c.loop-i-test.true e))

pub shape_of-map-then-code-ne0 : goal.shape_of-map-then-code-ne0
shape_of-map-then-code-ne0 c = c.note_span-2.auto.map ∙ c.note_span.auto.map

pub returns-then-code-ne0 : goal.returns-then-code-ne0
returns-then-code-ne0 c = let e = step_is _ _ _ _ _ _ _ c.fewer_of-step.ensures c.rest_of.ensures c.rest_of-in-loop-i.ensures in order_yes _ _ _ _ _ _ _ (spans_both _ _ _ _ _ _ _ _ c.in-Some.ensures.0.1 c.in-Some-span_of.ensures.0.1) _ _ c.requires.1 _ _ c.note_span.ensures c.note_span-2.ensures _ (compared_unlike _ _ _ _ _ _ _ c.loop-i.invariant.2 c.loop-i.invariant.3 _ _ c.loop-i-test.true e _ (compare_is _ _ _ _ _ _ _ c.compare_flat-code.ensures c.spot_of.ensures c.spot_of-in-loop-i.ensures) c.if-code-ne0.true ∙ sym c.loop-i.invariant.0)

pub overflow_add-i : goal.overflow_add-i
overflow_add-i c = let e = step_is _ _ _ _ _ _ _ c.fewer_of-step.ensures c.rest_of.ensures c.rest_of-in-loop-i.ensures in let l = piece_left _ _ _ _ _ _ _ _ c.loop-i.invariant.2 c.loop-i.invariant.3 _ _ c.loop-i-test.true e in record { fits = omega (arith, l, c.ranges.n) }

pub loop-i-smaller : goal.loop-i-smaller
loop-i-smaller c = let e = step_is _ _ _ _ _ _ _ c.fewer_of-step.ensures c.rest_of.ensures c.rest_of-in-loop-i.ensures in omega (arith, piece_some _ _ _ _ _ _ _ _ c.loop-i.invariant.2 c.loop-i.invariant.3 _ _ c.loop-i-test.true e, c.loop-i-test.true)

pub loop-i-preserved : goal.loop-i-preserved
loop-i-preserved c = let e = step_is _ _ _ _ _ _ _ c.fewer_of-step.ensures c.rest_of.ensures c.rest_of-in-loop-i.ensures in (c.loop-i.invariant.0 ∙ compared_alike _ _ _ _ _ _ _ c.loop-i.invariant.2 c.loop-i.invariant.3 _ _ c.loop-i-test.true e _ (compare_is _ _ _ _ _ _ _ c.compare_flat-code.ensures c.spot_of.ensures c.spot_of-in-loop-i.ensures) c.if-code-ne0.false, piece_left _ _ _ _ _ _ _ _ c.loop-i.invariant.2 c.loop-i.invariant.3 _ _ c.loop-i-test.true e, c.loop-i.invariant.2, c.loop-i.invariant.3)

pub shape_of-map : goal.shape_of-map
shape_of-map c = c.note_span-2.auto.map ∙ c.note_span.auto.map

pub returns : goal.returns
returns c = order_yes _ _ _ _ _ _ _ (spans_both _ _ _ _ _ _ _ _ c.in-Some.ensures.0.1 c.in-Some-span_of.ensures.0.1) _ _ c.requires.1 _ _ c.note_span.ensures c.note_span-2.ensures _ (all_alike _ _ _ _ _ _ _ _ c.loop-i.invariant.0 c.loop-i-test.false)
