use Rattle.machine.specs.Branches.{branch}
use Rattle.actions.proofs.branches.on_condition.Goals as goal
use Rattle.actions.proofs.branches.on_condition.Goals.{then-may, else-may}

pub returns : goal.returns
unfolding branch
returns c =
    elim c.if-may.branch [
      | then-may w ↦ rw (w.if-may.true, ← w.is_chosen.ensures, ← c.ahead_of-next.ensures) (rw w.go-is at c.go.ensures)
      | else-may w ↦ rw (w.if-may.false, ← c.ahead_of-next.ensures) (rw (w.go-is, w.if-may.false) at c.go.ensures)
    ]
