use native.Mathlib.Omega.{arith}
use Rattle.printing.proofs.Widths.{width_told, width_most}
use Rattle.printing.proofs.digits.width.Goals as goal

pub returns-then-low-bound : goal.returns-then-low-bound
returns-then-low-bound c =
    let inv = c.loop-digits.invariant in
    width_told _ _ c.loop-digits.auto.digits inv.1 (omega arith) (rw (← inv.0) c.if-low-bound.true)

pub returns : goal.returns
returns c = width_most _ _ c.loop-digits.auto.digits c.loop-digits.invariant.1 (omega arith)
