use Rattle.arithmetic.proofs.Sizes.{read_word}
use borrow.Author.Rules.{rules}
use Rattle.arithmetic.proofs.high.Goals as goal

pub returns : goal.returns
returns c = search (read_word, rules)
