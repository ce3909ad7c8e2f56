use Rattle.arithmetic.proofs.Sizes.{kept_minus, kept_plus}
use borrow.Author.Rules.{rules}
use Rattle.arithmetic.proofs.wide.with_sign.Goals as goal

pub returns-then-minus : goal.returns-then-minus
returns-then-minus c = search (kept_minus, rules)

pub returns-else-minus : goal.returns-else-minus
returns-else-minus c = search (kept_plus, rules)
