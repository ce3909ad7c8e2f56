use Rattle.arithmetic.proofs.Results.{negative_word}
use borrow.Author.Rules.{rules}
use Rattle.arithmetic.proofs.signed.negative.Goals as goal

pub returns : goal.returns
returns c = search (negative_word, rules)
