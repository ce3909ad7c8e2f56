use Rattle.arithmetic.proofs.WideShifts.{left_low, left_high, sum_small}
use borrow.Author.Rules.{rules}
use Rattle.arithmetic.proofs.shifts.left.Goals as goal

pub returns-then-a-top : goal.returns-then-a-top
returns-then-a-top c = search (left_low, rules)

pub overflow_add-result : goal.overflow_add-result
overflow_add-result c = search (sum_small, rules)

pub returns-else-a-top : goal.returns-else-a-top
returns-else-a-top c = search (left_high, rules)
