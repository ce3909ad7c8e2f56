use mathlib.Core.Path.{refl, sym, ◌∙◌, subst}
use borrow.Author.Rules.{rules}
use Rattle.listing.proofs.Turns.{begins_there, begins_within, ends, end_within, end_further, few_bytes, turn_none, turn_some, turn_within}
use Rattle.listing.proofs.Turns.{Halts, handed_back}
use Rattle.printing.specs.declared.writing.Writer.{Writer}
use Rattle.lines.specs.Listing.{listed_from}
use Rattle.listing.proofs.list_from.Goals as goal
use Rattle.listing.proofs.list_from.Goals.{else-loop-next-test, then-loop-next-test+then-not-add_line}

pub loop-next-init : goal.loop-next-init
loop-next-init c =
    record {
      whole = begins_there c.new-w.result _ c.new-w.ensures.start _ _ _;
      same_buffer = refl;
      fewer = search rules;
      within = begins_within c.new-w.result _ c.new-w.ensures.start;
    }

pub overflow_add-end : goal.overflow_add-end
overflow_add-end c =
    let w = end_within c.args.code.now c.loop-next.next c.size_of.result c.loop-next-test.true c.size_of.ensures in
    search rules

pub slice_bounds-add_line-end : goal.slice_bounds-add_line-end
slice_bounds-add_line-end c =
    let w = end_within c.args.code.now c.loop-next.next c.size_of.result c.loop-next-test.true c.size_of.ensures in
    search rules

pub add_line-requires : goal.add_line-requires
add_line-requires c = (c.loop-next.invariant.within, few_bytes _ _ _ c.loop-next-test.true c.size_of.ensures)

pub loop-next-smaller : goal.loop-next-smaller
loop-next-smaller c =
    let w = end_within c.args.code.now c.loop-next.next c.size_of.result c.loop-next-test.true c.size_of.ensures in
    let f = end_further c.args.code.now c.loop-next.next c.size_of.result c.loop-next-test.true c.size_of.ensures in
    search rules

pub loop-next-preserved : goal.loop-next-preserved
loop-next-preserved c =
    let f = end_further c.args.code.now c.loop-next.next c.size_of.result c.loop-next-test.true c.size_of.ensures in
    let room = sym c.if-not-add_line.false ∙ c.add_line.ensures.told in
    record {
      whole =
          c.loop-next.invariant.whole
          ∙ turn_some _ _ _ c.loop-next-test.true c.size_of.ensures _ _ c.address_at-address.ensures _ _ _ c.loop-next.invariant.within _
          c.add_line.ensures.written
          room;
      same_buffer = c.add_line.ensures.same_buffer ∙ c.loop-next.invariant.same_buffer;
      fewer = search rules;
      within =
          turn_within _ _ _ c.loop-next-test.true c.size_of.ensures _ _ c.address_at-address.ensures 0 _ _ c.loop-next.invariant.within _
          c.add_line.ensures.written
          room;
    }

pub returns : goal.returns
returns c =
    let x = listed_from c.args.code.now c.args.at c.args.start c.args.out.now in
    let there : Halts c.new-w.result c.loop-next-test.w c.loop-next.lines c.loop-next.next x =
    elim c.loop-next-test.branch [
      | else-loop-next-test w ↦
          subst (λ (v : Writer). Halts c.new-w.result v c.loop-next.lines c.loop-next.next x) (sym w.w-is)
          (record {
            same_buffer = c.loop-next.invariant.same_buffer;
            whole = c.loop-next.invariant.whole ∙ ends _ _ _ _ _ _ w.loop-next-test.false;
          })
      | then-loop-next-test+then-not-add_line w ↦
          subst (λ (v : Writer). Halts c.new-w.result v c.loop-next.lines c.loop-next.next x) (sym w.w-is)
          (record {
            same_buffer = w.add_line.ensures.same_buffer ∙ c.loop-next.invariant.same_buffer;
            whole =
                c.loop-next.invariant.whole
                ∙ turn_none _ _ _ w.loop-next-test.true w.size_of.ensures _ _ w.address_at-address.ensures _ _ _ c.loop-next.invariant.within _
                w.add_line.ensures.written
                (sym w.if-not-add_line.true ∙ w.add_line.ensures.told);
          })
    ] in
    search handed_back
