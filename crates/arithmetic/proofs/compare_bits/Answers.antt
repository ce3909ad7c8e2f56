use Rattle.arithmetic.proofs.ByCases.{compared}
use Rattle.arithmetic.proofs.compare_bits.Goals as goal

pub returns-in-Less : goal.returns-in-Less
returns-in-Less c = compared _ _ _ c.in-Less.ensures

pub returns-in-Equal : goal.returns-in-Equal
returns-in-Equal c = compared _ _ _ c.in-Equal.ensures

pub returns-in-Greater : goal.returns-in-Greater
returns-in-Greater c = compared _ _ _ c.in-Greater.ensures
