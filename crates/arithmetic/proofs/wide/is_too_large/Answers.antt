use Rattle.words.proofs.Range.{over_below, over_above}
use borrow.Author.Rules.{rules}
use Rattle.arithmetic.proofs.wide.is_too_large.Goals as goal

pub returns-then-minus : goal.returns-then-minus
returns-then-minus c = search (over_below, rules)

pub returns-else-minus : goal.returns-else-minus
returns-else-minus c = search (over_above, rules)
