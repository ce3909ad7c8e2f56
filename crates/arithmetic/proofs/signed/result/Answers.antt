use Rattle.arithmetic.proofs.Results.{result_below, result_zero, result_above, result_over}
use borrow.Author.Rules.{rules}
use Rattle.arithmetic.proofs.signed.result.Goals as goal

pub returns-in-1 : goal.returns-in-1
returns-in-1 c = search (result_below, rules)

pub returns-in_default : goal.returns-in_default
returns-in_default c = search (result_over, rules)

pub returns-in-2 : goal.returns-in-2
returns-in-2 c = search (result_zero, rules)

pub returns-in-2-2 : goal.returns-in-2-2
returns-in-2-2 c = search (result_above, rules)
