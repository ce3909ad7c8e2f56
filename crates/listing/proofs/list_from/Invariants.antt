use mathlib.Core.Path.{◌≡◌}
use Prim.Native.Nat.{◌-◌, ◌≤◌}
use lib.ListN.{length}
use Rattle.lines.specs.Listing.{listed_from}
use Rattle.listing.proofs.Turns.{on_from}
use Rattle.listing.proofs.list_from.Given as goal

abbrev pub invariant-loop-next : goal.invariant-loop-next
invariant-loop-next l =
    record {
      whole : listed_from l.code l.at l.start l.fn.out ≡ on_from l.code l.start l.lines l.next l.w.at l.w.buf.now;
      same_buffer : l.w.buf.ghost_name ≡ l.initial.w.buf.ghost_name;
      fewer : l.lines ≤ l.next;
      within : l.w.at ≤ length l.w.buf.now;
    }

abbrev pub decreases-loop-next : goal.decreases-loop-next
decreases-loop-next l = length l.code - l.next
