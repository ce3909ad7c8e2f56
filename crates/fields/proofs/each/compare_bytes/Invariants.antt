use Rattle.std.proofs.Common.{◌≡◌, ◌-◌}
use Rattle.pages.specs.Framed.{framed_of}
use Rattle.fields.specs.Direct.{compare_field}
use Rattle.fields.proofs.each.compare_bytes.Given as goal

abbrev pub invariant-loop : goal.invariant-loop
invariant-loop l = compare_field (framed_of l.mem l.map) l.first l.second l.len ≡ compare_field (framed_of l.mem l.map) l.a l.b (l.len - l.counter)
