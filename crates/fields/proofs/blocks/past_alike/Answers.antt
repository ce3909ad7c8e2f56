use Rattle.std.proofs.Common.{refl, ◌∙◌, arith}
use Rattle.fields.proofs.Stretches.{flat_compare_on}
use Rattle.fields.proofs.blocks.past_alike.Goals as goal

pub loop-left-init : goal.loop-left-init
loop-left-init g c = (refl, c.requires.within.1, c.requires.within.2)

pub loop-left-smaller : goal.loop-left-smaller
loop-left-smaller g c = omega (arith, c.requires.within.0, c.loop-left-test.true)

pub loop-left-preserved : goal.loop-left-preserved
loop-left-preserved g c = (
  c.loop-left.invariant.0
      ∙ flat_compare_on g.row.N _ _ _ _ (c.requires.told _ _ c.if-not-is_same.ensures) c.loop-left-test.true,
  omega (arith, c.loop-left-test.true, c.loop-left.invariant.1),
  omega (arith, c.loop-left-test.true, c.loop-left.invariant.2),
)
