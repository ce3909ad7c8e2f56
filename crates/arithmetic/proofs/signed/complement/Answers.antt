use Rattle.arithmetic.proofs.Results.{complement_word}
use borrow.Author.Rules.{rules}
use Rattle.arithmetic.proofs.signed.complement.Goals as goal

pub returns : goal.returns
returns c = search (complement_word, rules)
