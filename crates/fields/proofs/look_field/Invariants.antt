use Rattle.std.proofs.Common.{◌≡◌}
use Rattle.pages.specs.Look.{Look}
use Rattle.fields.specs.Direct.{look_field}
use Rattle.fields.proofs.look_field.Given as goal

abbrev pub invariant-loop-left : goal.invariant-loop-left
invariant-loop-left l =
    (rest : Look) → look_field l.map l.size l.field.access l.field.at l.field.len rest ≡ look_field l.map l.size l.field.access l.at l.left rest

abbrev pub decreases-loop-left : goal.decreases-loop-left
decreases-loop-left l = l.left
