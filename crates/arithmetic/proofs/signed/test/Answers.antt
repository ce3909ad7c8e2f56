use Rattle.arithmetic.proofs.Results.{test_word}
use borrow.Author.Rules.{rules}
use Rattle.arithmetic.proofs.signed.test.Goals as goal

pub returns : goal.returns
returns c = search (test_word, rules)
