use Rattle.std.proofs.Common.{◌≡◌, ◌+◌, ◌-◌}
use Rattle.fields.specs.Direct.{flat_fill}
use Rattle.fields.proofs.blocks.fill.Given as goal

abbrev pub invariant-loop-i : goal.invariant-loop-i
invariant-loop-i l = flat_fill l.initial.mem l.to l.v l.len ≡ flat_fill l.mem (l.to + l.i) l.v (l.len - l.i)
