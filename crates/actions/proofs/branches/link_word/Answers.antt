use Rattle.machine.specs.Branches.{link}
use Rattle.actions.proofs.branches.link_word.Goals as goal

pub returns : goal.returns
unfolding link
returns c = rw (c.from.ensures, c.from-2.ensures, c.from-3.ensures, c.from-4.ensures, c.ahead_of-next.ensures)
