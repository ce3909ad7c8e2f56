use Rattle.std.proofs.Common.{◌≡◌, refl, arith, eq-eqb, eqb-true}
use Rattle.fields.proofs.FlatLoops.{flat_compare_none}
use Rattle.fields.proofs.Stretches.{alike_more, alike_fewer, alike_at}
use Rattle.fields.proofs.blocks.is_alike.Goals as goal
use Rattle.fields.proofs.blocks.is_alike.Goals.{then-most-d, else-most-d}

pub loop-i-init : goal.loop-i-init
loop-i-init c = (λ z. flat_compare_none _ _ _ 0 (omega arith), λ z. refl)

pub loop-i-preserved : goal.loop-i-preserved
loop-i-preserved c = (
  λ z. alike_more _ _ _ _
      (c.loop-i.invariant.0 (elim c.if-most-d.branch [ then-most-d w ↦ omega arith | else-most-d w ↦ omega arith ]))
      (c.apart-d.ensures.0 (elim c.if-most-d.branch [ then-most-d w ↦ omega arith | else-most-d w ↦ omega arith ])),
  λ z.
      let p = c.loop-i.invariant.1 (alike_fewer _ _ _ _ _ z (omega arith)) in
      let q = c.apart-d.ensures.1 (alike_at _ _ _ _ z) in
      elim c.if-most-d.branch [ then-most-d w ↦ omega arith | else-most-d w ↦ omega arith ],
)

pub returns : goal.returns
returns c =
    let e : c.loop-i.i ≡ c.args.n = omega (arith, c.loop-i.auto.i-end, c.loop-i-test.false) in
    (λ z. rw e at (c.loop-i.invariant.0 (eqb-true _ _ z)), λ z. eq-eqb _ _ (c.loop-i.invariant.1 (rw e z)))
