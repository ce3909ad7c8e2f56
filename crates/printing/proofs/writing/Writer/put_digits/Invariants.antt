use Rattle.printing.specs.Digits.{digits_of}
use Rattle.printing.proofs.WritingLoops.{Leaves}
use Rattle.printing.proofs.writing.Writer.put_digits.Given as goal

abbrev pub invariant-loop-behind : goal.invariant-loop-behind
invariant-loop-behind l =
    Leaves l.initial.self l.self (digits_of l.base l.k l.v) (digits_of l.base l.behind l.v)
