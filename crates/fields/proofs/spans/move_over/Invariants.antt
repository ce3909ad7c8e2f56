use Rattle.std.proofs.Common.{◌≡◌, ◌+◌, ◌-◌, ◌%◌, ◌≤◌, length}
use Rattle.pages.specs.declared.Access.TheVariants.{Load, Store}
use Rattle.pages.specs.Framed.{framed_of}
use Rattle.fields.specs.Direct.{move_field}
use Rattle.fields.specs.Spans.{Spans}
use Rattle.fields.proofs.spans.move_over.Given as goal

abbrev pub invariant-loop-i : goal.invariant-loop-i
invariant-loop-i l =
    (move_field (framed_of l.initial.mem l.initial.map) l.to l.from l.n ≡ move_field (framed_of l.mem l.map) ((l.to + l.i) % 16777216) ((l.from + l.i) % 16777216) (l.n - l.i))
    × (length l.mem ≡ length l.initial.mem)
    × (length l.map ≡ length l.initial.map)
    × (l.i ≤ l.n)
    × Spans l.map (length l.mem) Store l.to l.n l.s
    × Spans l.map (length l.mem) Load l.from l.n l.t

abbrev pub decreases-loop-i : goal.decreases-loop-i
decreases-loop-i l = l.n - l.i
