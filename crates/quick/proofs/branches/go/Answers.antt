use native.Mathlib.Omega.{arith}
use Rattle.quick.proofs.Branching.{gone_in, gone_out}
use Rattle.quick.proofs.branches.go.Goals as goal

pub returns-then-to-w : goal.returns-then-to-w
returns-then-to-w c = gone_in _ _ _ c.if-to-eq0.true c.if-w-to.true (omega (arith, c.ranges.to))

pub returns-else-to-w : goal.returns-else-to-w
returns-else-to-w c = gone_out _ _ _

pub returns-else-w-to : goal.returns-else-w-to
returns-else-w-to c = gone_out _ _ _

pub returns-else-to-eq0 : goal.returns-else-to-eq0
returns-else-to-eq0 c = gone_out _ _ _
