use Rattle.std.proofs.Common.{◌≡◌, ◌+◌, ◌≤◌, length}
use Rattle.fields.specs.Direct.{flat_compare}
use Rattle.fields.proofs.blocks.past_alike.Given as goal

abbrev pub invariant-loop-left : goal.invariant-loop-left
invariant-loop-left g l =
    (flat_compare l.mem l.first l.second l.len ≡ flat_compare l.mem l.a l.b l.left)
    × (l.a + l.left ≤ length l.mem)
    × (l.b + l.left ≤ length l.mem)

abbrev pub decreases-loop-left : goal.decreases-loop-left
decreases-loop-left g l = l.left
