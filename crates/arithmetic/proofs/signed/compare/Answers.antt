use Rattle.arithmetic.proofs.Results.{compare_words}
use Rattle.arithmetic.proofs.signed.compare.Goals as goal

pub returns : goal.returns
returns c = search compare_words
