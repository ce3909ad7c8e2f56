use Rattle.std.proofs.Common.{◌≡◌}
use Rattle.fields.specs.Direct.{flat_compare}
use Rattle.fields.proofs.blocks.is_alike.Given as goal

abbrev pub invariant-loop-i : goal.invariant-loop-i
invariant-loop-i l = (l.most ≡ 0 → flat_compare l.mem l.first l.second l.i ≡ 0) × (flat_compare l.mem l.first l.second l.i ≡ 0 → l.most ≡ 0)
