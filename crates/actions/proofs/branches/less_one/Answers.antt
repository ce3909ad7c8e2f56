use mathlib.Core.Path.{refl}
use Rattle.machine.specs.Branches.{less_one}
use Rattle.actions.proofs.branches.less_one.Goals as goal

pub returns : goal.returns
unfolding less_one
returns c = refl
