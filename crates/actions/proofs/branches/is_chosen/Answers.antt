use Rattle.machine.specs.Branches.{chosen}
use Rattle.actions.proofs.Scalars.{chosen_last}
use Rattle.actions.proofs.branches.is_chosen.Goals as goal

pub returns-in-0 : goal.returns-in-0
unfolding chosen
returns-in-0 c = rw (c.in-0.is)

pub returns-in-1 : goal.returns-in-1
unfolding chosen
returns-in-1 c = rw (c.in-1.is)

pub returns-in-2 : goal.returns-in-2
unfolding chosen
returns-in-2 c = rw (c.in-2.is)

pub returns-in_default : goal.returns-in_default
returns-in_default c = chosen_last _ _ c.in_default.in_default-own.rest.0.0.1 c.in_default.in_default-own.rest.0.1 c.in_default.in_default-own.rest.1
