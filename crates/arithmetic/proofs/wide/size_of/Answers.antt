use Rattle.arithmetic.proofs.Sizes.{read_double}
use borrow.Author.Rules.{rules}
use Rattle.arithmetic.proofs.wide.size_of.Goals as goal

pub returns : goal.returns
returns c = search (read_double, rules)
