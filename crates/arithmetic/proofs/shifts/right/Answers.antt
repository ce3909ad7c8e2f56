use Rattle.arithmetic.proofs.WideShifts.{right_low, right_high, complement_small}
use borrow.Author.Rules.{rules}
use Rattle.arithmetic.proofs.shifts.right.Goals as goal

pub returns-then-a-top : goal.returns-then-a-top
returns-then-a-top c = search (right_low, rules)

pub overflow_sub-result-else-a-top : goal.overflow_sub-result-else-a-top
overflow_sub-result-else-a-top c = search (complement_small, rules)

pub returns-else-a-top : goal.returns-else-a-top
returns-else-a-top c = search (right_high, rules)
