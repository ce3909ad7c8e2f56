use Rattle.std.proofs.Common.{◌≡◌, ◌+◌, ◌-◌, sym, refl, ◌∙◌, arith}
use Rattle.fields.specs.Direct.{flat_compare}
use Rattle.fields.proofs.FlatLoops.{flat_compare_turn, flat_compare_none, flat_compare_low, flat_compare_high}
use Rattle.fields.proofs.blocks.compare_on.Goals as goal

pub loop-i-init : goal.loop-i-init
loop-i-init c =
    let e : c.args.first ≡ c.args.first + 0 = omega arith in
    let f : c.args.second ≡ c.args.second + 0 = omega arith in
    let g : c.args.len ≡ c.args.len - 0 = omega arith in
    λ j. flat_compare c.args.mem.now (e j) (f j) (g j)

pub loop-i-preserved : goal.loop-i-preserved
loop-i-preserved c =
    let e : c.args.first + c.loop-i.i + 1 ≡ c.args.first + (c.loop-i.i + 1) = omega arith in
    let f : c.args.second + c.loop-i.i + 1 ≡ c.args.second + (c.loop-i.i + 1) = omega arith in
    let g : c.args.len - c.loop-i.i - 1 ≡ c.args.len - (c.loop-i.i + 1) = omega arith in
    c.loop-i.invariant
    ∙ flat_compare_turn _ _ _ _ _ refl refl _ (omega (arith, c.loop-i-test.true)) (omega (arith, c.if-x-y.false)) (omega (arith, c.if-x-y.false))
    ∙ (λ j. flat_compare c.args.mem.now (e j) (f j) (g j))

pub returns-then-x-y-2 : goal.returns-then-x-y-2
returns-then-x-y-2 c =
    flat_compare_low _ _ _ _ _ refl refl _ (omega (arith, c.loop-i-test.true)) c.if-x-y-2.true ∙ sym c.loop-i.invariant

pub returns-else-x-y-2 : goal.returns-else-x-y-2
returns-else-x-y-2 c =
    flat_compare_high _ _ _ _ _ refl refl _ (omega (arith, c.loop-i-test.true)) (omega (arith, c.if-x-y.true, c.if-x-y-2.false))
    ∙ sym c.loop-i.invariant

pub returns : goal.returns
returns c = sym (c.loop-i.invariant ∙ flat_compare_none _ _ _ _ (omega (arith, c.loop-i-test.false)))
