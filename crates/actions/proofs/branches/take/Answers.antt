use Rattle.actions.proofs.branches.take.Goals as goal

pub returns-in-OnCondition : goal.returns-in-OnCondition
returns-in-OnCondition c = rw c.in-OnCondition.is c.on_condition.ensures

pub returns-in-AndLink : goal.returns-in-AndLink
returns-in-AndLink c = rw c.in-AndLink.is c.and_link.ensures

pub returns-in-OnCount : goal.returns-in-OnCount
returns-in-OnCount c = rw c.in-OnCount.is c.on_count.ensures
