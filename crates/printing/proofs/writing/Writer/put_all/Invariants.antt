use lib.ListN.{drop}
use Rattle.printing.proofs.WritingLoops.{Leaves}
use Rattle.printing.proofs.writing.Writer.put_all.Given as goal

abbrev pub invariant-loop-b : goal.invariant-loop-b
invariant-loop-b l =
    Leaves l.initial.self l.self l.text (drop l.b-index l.text)
