use Rattle.std.proofs.Common.{◌≡◌, length}
use Rattle.fields.specs.Direct.{note_field}
use Rattle.fields.proofs.note_field.Given as goal

abbrev pub invariant-loop-left : goal.invariant-loop-left
invariant-loop-left l = (note_field l.initial.map l.at l.len ≡ note_field l.map l.to l.left) × (length l.map ≡ length l.initial.map)

abbrev pub decreases-loop-left : goal.decreases-loop-left
decreases-loop-left l = l.left
