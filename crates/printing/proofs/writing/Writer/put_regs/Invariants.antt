use lib.ListN.{drop}
use Rattle.printing.specs.Answer.{regs_from}
use Rattle.printing.proofs.WritingLoops.{Leaves}
use Rattle.printing.proofs.writing.Writer.put_regs.Given as goal

abbrev pub invariant-loop-n : goal.invariant-loop-n
invariant-loop-n l =
    Leaves l.initial.self l.self (regs_from 0 l.regs) (regs_from l.n (drop l.n l.regs))
