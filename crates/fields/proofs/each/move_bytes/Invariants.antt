use Rattle.std.proofs.Common.{◌≡◌, ◌-◌, length}
use Rattle.pages.specs.Framed.{framed_of}
use Rattle.fields.specs.Direct.{move_field}
use Rattle.fields.proofs.each.move_bytes.Given as goal

abbrev pub invariant-loop : goal.invariant-loop
invariant-loop l =
    (move_field (framed_of l.initial.mem l.initial.map) l.to l.from l.len ≡ move_field (framed_of l.mem l.map) l.a l.b (l.len - l.counter))
    × (length l.mem ≡ length l.initial.mem)
    × (length l.map ≡ length l.initial.map)
