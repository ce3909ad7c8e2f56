use Rattle.machine.specs.Branches.{branch}
use Rattle.actions.proofs.branches.and_link.Goals as goal

pub returns : goal.returns
unfolding branch
returns c = rw (← c.ahead_of-next.ensures, ← c.link_word-word.ensures, ← c.put_reg.ensures) c.go.ensures
