use Rattle.arithmetic.proofs.Pairs.{product_small, product_told}
use borrow.Author.Rules.{rules}
use Rattle.arithmetic.proofs.wide.multiply.Goals as goal

pub overflow_mul-size : goal.overflow_mul-size
overflow_mul-size c = search (product_small, rules)

pub returns : goal.returns
returns c = search (product_told, rules)
