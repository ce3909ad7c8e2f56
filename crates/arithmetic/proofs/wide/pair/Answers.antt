use Rattle.words.specs.Wide.{pair_of}
use Rattle.arithmetic.proofs.wide.pair.Goals as goal

pub returns-in-Multiply : goal.returns-in-Multiply
unfolding pair_of
returns-in-Multiply c = cc

pub returns-in-Divide : goal.returns-in-Divide
returns-in-Divide c = cc
