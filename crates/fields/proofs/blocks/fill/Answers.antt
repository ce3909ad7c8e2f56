use Rattle.std.proofs.Common.{◌≡◌, ◌+◌, ◌-◌, sym, ◌∙◌, arith, slice_set}
use Rattle.fields.specs.Direct.{flat_fill}
use Rattle.fields.proofs.Stretches.{fill_turn, fill_none}
use Rattle.fields.proofs.blocks.fill.Goals as goal

pub loop-i-init : goal.loop-i-init
loop-i-init c =
    let e : c.args.to ≡ c.args.to + 0 = omega arith in
    let f : c.args.len ≡ c.args.len - 0 = omega arith in
    λ j. flat_fill c.args.mem.now (e j) c.args.v (f j)

pub loop-i-preserved : goal.loop-i-preserved
loop-i-preserved c =
    let e : c.args.to + c.loop-i.i + 1 ≡ c.args.to + (c.loop-i.i + 1) = omega arith in
    let f : c.args.len - c.loop-i.i - 1 ≡ c.args.len - (c.loop-i.i + 1) = omega arith in
    c.loop-i.invariant
    ∙ fill_turn _ _ _ _ (omega (arith, c.loop-i-test.true))
    ∙ (λ j. flat_fill (slice_set c.loop-i.mem (c.args.to + c.loop-i.i) c.args.v) (e j) c.args.v (f j))

pub returns : goal.returns
returns c = sym (c.loop-i.invariant ∙ fill_none _ _ _ _ (omega (arith, c.loop-i-test.false)))
