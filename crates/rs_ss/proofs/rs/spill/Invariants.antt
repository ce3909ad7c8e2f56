use mathlib.Core.Path.{◌≡◌}
use Prim.Native.Nat.{◌*◌, ◌%◌}
use lib.ListN.{length}
use Rattle.pages.specs.declared.Access.TheVariants.{Store}
use Rattle.pages.specs.Framed.{framed_of}
use Rattle.fields.specs.Direct.{Clear}
use Rattle.rs_ss.specs.Multiple.{spilled}
use Rattle.rs_ss.proofs.rs.spill.Given as goal

-- what is left is on its boundary, and no byte of it is refused
abbrev pub invariant-loop-left : goal.invariant-loop-left
invariant-loop-left l =
    (spilled l.regs l.count l.first l.at (framed_of l.initial.mem l.initial.map) ≡ spilled l.regs l.left l.r l.a (framed_of l.mem l.map)) × (length l.mem ≡ length l.initial.mem) × (length l.map ≡ length l.initial.map) × (l.a % 4 ≡ 0) × Clear l.map (length l.mem) Store l.a (l.left * 4)

abbrev pub decreases-loop-left : goal.decreases-loop-left
decreases-loop-left l = l.left
