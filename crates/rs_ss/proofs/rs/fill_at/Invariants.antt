use mathlib.Core.Path.{◌≡◌}
use Prim.Native.Nat.{◌+◌, ◌*◌, ◌-◌, ◌≤◌}
use lib.ListN.{length}
use Rattle.rs_ss.specs.Multiple.{filled_at}
use Rattle.rs_ss.proofs.rs.fill_at.Given as goal

abbrev pub invariant-loop : goal.invariant-loop
invariant-loop l =
    (filled_at l.mem l.count l.first l.at l.initial.regs ≡ filled_at l.mem (l.count - l.counter) l.r l.a l.regs)
    × (length l.regs ≡ length l.initial.regs)
    × (l.a + (l.count - l.counter) * 4 ≤ length l.mem)
