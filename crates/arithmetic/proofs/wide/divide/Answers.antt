use Rattle.words.specs.Whole.{word_top}
use Rattle.arithmetic.proofs.Sizes.{size_above}
use Rattle.arithmetic.proofs.Pairs.{divide_zero, divide_over, divide_fits}
use borrow.Author.Rules.{rules}
use Rattle.arithmetic.proofs.wide.divide.Goals as goal

pub returns-then-b-eq0 : goal.returns-then-b-eq0
returns-then-b-eq0 c = search divide_zero

pub nonzero_div-quotient : goal.nonzero_div-quotient
nonzero_div-quotient c = search (size_above, rules)

pub returns-then-is_too_large : goal.returns-then-is_too_large
returns-then-is_too_large c = search (divide_over, rules)

pub nonzero_rem-size : goal.nonzero_rem-size
nonzero_rem-size c = size_above word_top _ _ (search rules) c.if-b-eq0.false (search rules)

pub returns : goal.returns
returns c = search (divide_fits, rules)
