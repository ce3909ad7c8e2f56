use Rattle.words.specs.Wide.{product_of}
use Rattle.arithmetic.proofs.Sizes.{half_kept}
use Rattle.arithmetic.proofs.wide.low_product.Goals as goal

pub returns : goal.returns
unfolding product_of
returns c = search half_kept
