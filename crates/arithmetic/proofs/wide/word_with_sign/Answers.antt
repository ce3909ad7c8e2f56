use Rattle.arithmetic.proofs.Sizes.{half_kept}
use Rattle.arithmetic.proofs.wide.word_with_sign.Goals as goal

pub returns : goal.returns
returns c = search half_kept
