use Rattle.std.proofs.Common.{◌≡◌, ◌-◌}
use Rattle.pages.specs.Look.{Look}
use Rattle.fields.specs.Direct.{look_field}
use Rattle.fields.proofs.each.look_bytes.Given as goal

abbrev pub invariant-loop : goal.invariant-loop
invariant-loop l = (rest : Look) → look_field l.map l.size l.access l.at l.len rest ≡ look_field l.map l.size l.access l.a (l.len - l.counter) rest
