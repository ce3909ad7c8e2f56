use mathlib.Core.Path.{◌≡◌}
use Prim.Native.Nat.{◌-◌, ◌^◌, ◌≤◌, ◌<◌}
use Rattle.printing.proofs.digits.width.Given as goal

abbrev pub invariant-loop-digits : goal.invariant-loop-digits
invariant-loop-digits l = (l.bound ≡ 10 ^ l.digits) × (1 < l.digits → 10 ^ (l.digits - 1) ≤ l.low)
