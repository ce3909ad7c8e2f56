use Rattle.arithmetic.proofs.Results.{positive_word}
use borrow.Author.Rules.{rules}
use Rattle.arithmetic.proofs.signed.positive.Goals as goal

pub returns : goal.returns
returns c = search (positive_word, rules)
