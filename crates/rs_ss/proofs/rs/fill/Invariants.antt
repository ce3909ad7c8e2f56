use mathlib.Core.Path.{◌≡◌}
use Prim.Native.Nat.{◌*◌, ◌%◌}
use lib.ListN.{length}
use Rattle.pages.specs.declared.Access.TheVariants.{Load}
use Rattle.pages.specs.Framed.{framed_of}
use Rattle.fields.specs.Direct.{Clear}
use Rattle.rs_ss.specs.Multiple.{filled}
use Rattle.rs_ss.proofs.rs.fill.Given as goal

-- what is left is on its boundary, and no byte of it is refused
abbrev pub invariant-loop-left : goal.invariant-loop-left
invariant-loop-left l =
    (filled (framed_of l.mem l.map) l.count l.first l.at l.initial.regs ≡ filled (framed_of l.mem l.map) l.left l.r l.a l.regs) × (length l.regs ≡ length l.initial.regs) × (l.a % 4 ≡ 0) × Clear l.map (length l.mem) Load l.a (l.left * 4)

abbrev pub decreases-loop-left : goal.decreases-loop-left
decreases-loop-left l = l.left
