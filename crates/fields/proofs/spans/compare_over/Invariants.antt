use Rattle.std.proofs.Common.{◌≡◌, ◌+◌, ◌-◌, ◌%◌, ◌≤◌, length}
use Rattle.pages.specs.declared.Access.TheVariants.{Load}
use Rattle.pages.specs.Framed.{framed_of}
use Rattle.fields.specs.Direct.{compare_field}
use Rattle.fields.specs.Spans.{Spans}
use Rattle.fields.proofs.spans.compare_over.Given as goal

abbrev pub invariant-loop-i : goal.invariant-loop-i
invariant-loop-i l =
    (compare_field (framed_of l.mem l.map) l.first l.second l.n ≡ compare_field (framed_of l.mem l.map) ((l.first + l.i) % 16777216) ((l.second + l.i) % 16777216) (l.n - l.i))
    × (l.i ≤ l.n)
    × Spans l.map (length l.mem) Load l.first l.n l.s
    × Spans l.map (length l.mem) Load l.second l.n l.t

abbrev pub decreases-loop-i : goal.decreases-loop-i
decreases-loop-i l = l.n - l.i
