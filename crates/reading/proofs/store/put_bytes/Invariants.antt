use Prim.Native.Nat.{◌+◌, ◌≤◌}
use mathlib.Core.Path.{◌≡◌}
use mathlib.Core.Bool.{true}
use lib.ListN.{length}
use lib.Seq.{sets}
use Rattle.reading.specs.Digits.{all_digits, pairs_of}
use Rattle.reading.proofs.store.put_bytes.Given as goal

abbrev pub invariant-loop-rest : goal.invariant-loop-rest
invariant-loop-rest l =
    (sets l.initial.mem l.a (pairs_of l.digits) ≡ sets l.mem l.at (pairs_of l.rest))
    × (all_digits 16 l.rest ≡ true)
    × (l.at + length l.rest ≤ l.a + length l.digits)
    × (length l.mem ≡ length l.initial.mem)

abbrev pub decreases-loop-rest : goal.decreases-loop-rest
decreases-loop-rest l = length l.rest
