use Rattle.std.proofs.Common.{◌≡◌, ◌-◌, length}
use Rattle.fields.specs.Direct.{note_field}
use Rattle.fields.proofs.each.note_bytes.Given as goal

abbrev pub invariant-loop : goal.invariant-loop
invariant-loop l = (note_field l.initial.map l.at l.len ≡ note_field l.map l.a (l.len - l.counter)) × (length l.map ≡ length l.initial.map)
