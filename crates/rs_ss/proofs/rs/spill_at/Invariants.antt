use mathlib.Core.Path.{◌≡◌}
use Prim.Native.Nat.{◌+◌, ◌*◌, ◌-◌, ◌≤◌}
use lib.ListN.{length}
use Rattle.rs_ss.specs.Multiple.{spilled_at}
use Rattle.rs_ss.proofs.rs.spill_at.Given as goal

abbrev pub invariant-loop : goal.invariant-loop
invariant-loop l =
    (spilled_at l.regs l.count l.first l.at l.initial.mem ≡ spilled_at l.regs (l.count - l.counter) l.r l.a l.mem)
    × (length l.mem ≡ length l.initial.mem)
    × (l.a + (l.count - l.counter) * 4 ≤ length l.mem)
