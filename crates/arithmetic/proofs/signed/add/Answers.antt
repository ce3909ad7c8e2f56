use Rattle.arithmetic.proofs.Results.{add_words}
use borrow.Author.Rules.{rules}
use Rattle.arithmetic.proofs.signed.add.Goals as goal

pub returns : goal.returns
returns c = search (add_words, rules)
