use Prim.Native.Nat.{◌≤◌}
use mathlib.Core.Path.{◌≡◌}
use lib.ListN.{drop}
use Rattle.reading.proofs.Numbers.{answer}
use Rattle.reading.proofs.digits.number.Given as goal

abbrev pub invariant-loop-b : goal.invariant-loop-b
invariant-loop-b l = (answer l.base l.last 0 l.s ≡ answer l.base l.last l.n (drop l.b-index l.s)) × (l.n ≤ l.last)
