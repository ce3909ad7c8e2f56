-- The measure is how many bytes are left to list.
use Rattle.std.proofs.Common.{◌≡◌, ◌-◌, length}
use Rattle.lister.proofs.list_code.Given as goal

abbrev pub invariant-loop-at : goal.invariant-loop-at
invariant-loop-at l = 65536 ≡ length l.out

abbrev pub decreases-loop-at : goal.decreases-loop-at
decreases-loop-at l = length l.code - l.at
