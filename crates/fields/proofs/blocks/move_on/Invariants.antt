use Rattle.std.proofs.Common.{◌≡◌, ◌+◌, ◌-◌, length}
use Rattle.fields.specs.Direct.{flat_move}
use Rattle.fields.proofs.blocks.move_on.Given as goal

abbrev pub invariant-loop : goal.invariant-loop
invariant-loop l =
    (flat_move l.initial.mem l.to l.from l.len ≡ flat_move l.mem l.a l.b (l.len - l.counter))
    × (length l.mem ≡ length l.initial.mem)
    × (l.a ≡ l.to + l.counter)
    × (l.b ≡ l.from + l.counter)
