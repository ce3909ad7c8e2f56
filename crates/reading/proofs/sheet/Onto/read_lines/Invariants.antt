use Prim.Native.Nat.{◌+◌, ◌≤◌}
use mathlib.Core.Path.{◌≡◌}
use lib.ListN.{length}
use Rattle.reading.specs.Cut.{count}
use Rattle.reading.specs.Within.{SameLent, start_of, state_of, read_lines}
use Rattle.reading.proofs.sheet.Onto.read_lines.Given as goal

abbrev pub invariant-loop-rest : goal.invariant-loop-rest
invariant-loop-rest l =
    (read_lines (count 10 l.sheet) 1 l.sheet (state_of start_of l.initial.self) ≡ read_lines (count 10 l.rest) l.line l.rest (state_of l.p l.self))
    × (l.line + length l.rest ≤ length l.sheet + 1)
    × SameLent l.initial.self l.self

abbrev pub decreases-loop-rest : goal.decreases-loop-rest
decreases-loop-rest l = length l.rest
