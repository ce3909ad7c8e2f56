-- The number has no more digits than those that were not looked at.
use Rattle.std.proofs.Common.{◌<◌, ◌^◌}
use Rattle.probe.proofs.told.width.Given as goal

abbrev pub invariant-loop-behind : goal.invariant-loop-behind
invariant-loop-behind l = (0 < l.behind) × (l.v < 10 ^ l.behind)
