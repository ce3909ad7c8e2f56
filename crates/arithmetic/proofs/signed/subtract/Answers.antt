use Rattle.arithmetic.proofs.Results.{subtract_words}
use borrow.Author.Rules.{rules}
use Rattle.arithmetic.proofs.signed.subtract.Goals as goal

pub returns : goal.returns
returns c = search (subtract_words, rules)
