use Rattle.std.proofs.Common.{sym, refl, ◌∙◌, arith}
use Rattle.fields.specs.Direct.{move_field}
use Rattle.fields.proofs.Spanned.{spans_both, spans_paged, noted_spans, step_is, move_is, all_moved, piece_some, piece_left, first_room, second_room, spot_low, moved_on, still_spans, begun, mark_is}
use Rattle.fields.proofs.spans.move_over.Goals as goal

pub span_of-requires : goal.span_of-requires
span_of-requires c = (c.requires.0, c.requires.1)

pub span_of-requires-2 : goal.span_of-requires-2
span_of-requires-2 c = (c.requires.0, c.requires.2)

pub note_span-requires : goal.note_span-requires
note_span-requires c = let p = c.in-Some.ensures.0 in spans_paged _ _ _ _ _ _ c.requires.0 p.0 p.1

pub note_span-requires-2 : goal.note_span-requires-2
note_span-requires-2 c = let p = c.in-Some-span_of.ensures.0 in spans_paged _ _ _ _ _ _ c.requires.0 p.0 p.1

pub loop-i-init : goal.loop-i-init
loop-i-init c = (begun (move_field _) _ _ _ _ _ _ _ _ c.in-Some.ensures.0.1 c.in-Some-span_of.ensures.0.1, refl, refl, omega arith, noted_spans _ _ _ _ _ _ _ c.note_span.ensures c.note_span-2.ensures _ _ _ _ c.in-Some.ensures.0.1, noted_spans _ _ _ _ _ _ _ c.note_span.ensures c.note_span-2.ensures _ _ _ _ c.in-Some-span_of.ensures.0.1)

pub rest_of-requires : goal.rest_of-requires
rest_of-requires c = c.loop-i.invariant.3

pub rest_of-requires-in-loop-i : goal.rest_of-requires-in-loop-i
rest_of-requires-in-loop-i c = c.loop-i.invariant.3

pub spot_of-requires : goal.spot_of-requires
spot_of-requires c = omega (arith, spot_low _ _ _ _ _ _ c.loop-i.invariant.4 _ c.loop-i-test.true, c.loop-i.invariant.1)

pub spot_of-requires-in-loop-i : goal.spot_of-requires-in-loop-i
spot_of-requires-in-loop-i c = omega (arith, spot_low _ _ _ _ _ _ c.loop-i.invariant.5 _ c.loop-i-test.true, c.loop-i.invariant.1)

pub move_flat-requires : goal.move_flat-requires
move_flat-requires c = let e = step_is _ _ _ _ _ _ _ c.fewer_of-step.ensures c.rest_of.ensures c.rest_of-in-loop-i.ensures in (piece_some _ _ _ _ _ _ _ _ c.loop-i.invariant.4 c.loop-i.invariant.5 _ _ c.loop-i-test.true e, rw c.spot_of.ensures (first_room _ _ _ _ _ _ _ _ c.loop-i.invariant.4 c.loop-i.invariant.5 _ _ c.loop-i-test.true e), rw c.spot_of-in-loop-i.ensures (second_room _ _ _ _ _ _ _ _ c.loop-i.invariant.4 c.loop-i.invariant.5 _ _ c.loop-i-test.true e))

pub overflow_add-i : goal.overflow_add-i
overflow_add-i c = let e = step_is _ _ _ _ _ _ _ c.fewer_of-step.ensures c.rest_of.ensures c.rest_of-in-loop-i.ensures in let l = piece_left _ _ _ _ _ _ _ _ c.loop-i.invariant.4 c.loop-i.invariant.5 _ _ c.loop-i-test.true e in record { fits = omega (arith, l, c.ranges.n) }

pub loop-i-smaller : goal.loop-i-smaller
loop-i-smaller c = let e = step_is _ _ _ _ _ _ _ c.fewer_of-step.ensures c.rest_of.ensures c.rest_of-in-loop-i.ensures in omega (arith, piece_some _ _ _ _ _ _ _ _ c.loop-i.invariant.4 c.loop-i.invariant.5 _ _ c.loop-i-test.true e, c.loop-i-test.true)

pub loop-i-preserved : goal.loop-i-preserved
loop-i-preserved c = let e = step_is _ _ _ _ _ _ _ c.fewer_of-step.ensures c.rest_of.ensures c.rest_of-in-loop-i.ensures in let m = move_is _ _ _ _ _ _ _ c.move_flat.ensures c.spot_of.ensures c.spot_of-in-loop-i.ensures in let w = mark_is _ _ _ _ c.note_written.ensures c.past_of.ensures in (c.loop-i.invariant.0 ∙ moved_on _ _ _ _ _ _ _ c.loop-i.invariant.4 c.loop-i.invariant.5 _ _ c.loop-i-test.true e _ _ m w, c.move_flat.auto.mem ∙ c.loop-i.invariant.1, c.note_written.auto.map ∙ c.loop-i.invariant.2, piece_left _ _ _ _ _ _ _ _ c.loop-i.invariant.4 c.loop-i.invariant.5 _ _ c.loop-i-test.true e, still_spans _ _ _ _ _ _ _ c.loop-i.invariant.4 c.loop-i.invariant.5 _ _ c.loop-i-test.true e _ _ m w c.move_flat.auto.mem _ _ _ c.loop-i.invariant.4, still_spans _ _ _ _ _ _ _ c.loop-i.invariant.4 c.loop-i.invariant.5 _ _ c.loop-i-test.true e _ _ m w c.move_flat.auto.mem _ _ _ c.loop-i.invariant.5)

pub shape_of-mem : goal.shape_of-mem
shape_of-mem c = c.loop-i.invariant.1

pub shape_of-map : goal.shape_of-map
shape_of-map c = c.loop-i.invariant.2 ∙ c.note_span-2.auto.map ∙ c.note_span.auto.map

pub returns : goal.returns
returns c = (sym c.requires.1 ∙ spans_both _ _ _ _ _ _ _ _ c.in-Some.ensures.0.1 c.in-Some-span_of.ensures.0.1, all_moved _ _ _ _ _ _ _ _ _ _ _ _ c.loop-i.invariant.0 c.loop-i-test.false c.note_span.ensures c.note_span-2.ensures)
