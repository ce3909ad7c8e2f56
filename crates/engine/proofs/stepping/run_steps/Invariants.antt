use Prim.Native.Nat.{◌-◌, ◌≤◌}
use mathlib.Core.Path.{◌≡◌}
use lib.ListN.{length}
use Rattle.pages.specs.Framed.{framed_of}
use Rattle.machine.specs.Run.{run}
use Rattle.machine.specs.Step.{step}
use Rattle.machine.specs.Machine.{ops_for}
use Rattle.actions.specs.Answered.{cpu_of}
use Rattle.engine.specs.Entry.{adds}
use Rattle.engine.proofs.stepping.run_steps.Given as goal

abbrev pub invariant-loop-left : goal.invariant-loop-left
invariant-loop-left l =
    (run ops_for step l.budget (cpu_of l.initial.regs l.initial.at) (framed_of l.initial.mem l.initial.map) ≡ adds (l.budget - l.left) (run ops_for step l.left (cpu_of l.regs l.at) (framed_of l.mem l.map))) × (l.left ≤ l.budget) × (length l.regs ≡ length l.initial.regs) × (length l.mem ≡ length l.initial.mem) × (length l.map ≡ length l.initial.map)

abbrev pub decreases-loop-left : goal.decreases-loop-left
decreases-loop-left l = l.left
