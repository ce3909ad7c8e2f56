use lib.ListN.{drop}
use Rattle.code.specs.Table.{name_of}
use Rattle.decode.specs.Names.{name_in}
use Rattle.printing.proofs.WritingLoops.{Leaves}
use Rattle.listing.proofs.line.put_name.Given as goal

abbrev pub invariant-loop-b : goal.invariant-loop-b
invariant-loop-b l = Leaves l.initial.w l.w (name_of l.op) (name_in (drop l.b-index l.b-items))
