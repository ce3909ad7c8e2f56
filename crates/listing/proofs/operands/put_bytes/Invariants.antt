use lib.ListN.{drop}
use Rattle.printing.proofs.WritingLoops.{Leaves}
use Rattle.lines.specs.Line.{hex_bytes}
use Rattle.listing.proofs.operands.put_bytes.Given as goal

abbrev pub invariant-loop-b : goal.invariant-loop-b
invariant-loop-b l = Leaves l.initial.w l.w (hex_bytes l.bytes) (hex_bytes (drop l.b-index l.bytes))
