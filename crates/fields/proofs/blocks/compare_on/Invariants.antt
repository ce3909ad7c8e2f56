use Rattle.std.proofs.Common.{◌≡◌, ◌+◌, ◌-◌}
use Rattle.fields.specs.Direct.{flat_compare}
use Rattle.fields.proofs.blocks.compare_on.Given as goal

abbrev pub invariant-loop-i : goal.invariant-loop-i
invariant-loop-i l = flat_compare l.mem l.first l.second l.len ≡ flat_compare l.mem (l.first + l.i) (l.second + l.i) (l.len - l.i)
