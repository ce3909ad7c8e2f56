use Rattle.engine.proofs.Spins.{Spins}
use Rattle.engine.proofs.spinning.spin.Given as goal

abbrev pub invariant-loop-left : goal.invariant-loop-left
invariant-loop-left l =
    Spins l.w l.budget l.mask l.initial.at l.initial.code l.initial.regs l.initial.mem l.initial.map l.regs l.mem l.map l.at l.code l.left

abbrev pub decreases-loop-left : goal.decreases-loop-left
decreases-loop-left l = l.left
