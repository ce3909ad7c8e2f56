use Rattle.arithmetic.proofs.logical.bits.Goals as goal

pub returns : goal.returns
returns c = cc
