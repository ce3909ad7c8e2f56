use Rattle.machine.specs.Branches.{branch}
use Rattle.machine.specs.Cpu.{reg}
use Rattle.actions.proofs.branches.on_count.Goals as goal
use Rattle.actions.proofs.branches.on_count.Goals.{then-may, else-may}

pub returns : goal.returns
unfolding branch reg
returns c =
    elim c.if-may.branch [
      | then-may w ↦ rw (w.if-may.true, ← c.ahead_of-next.ensures, ← c.reg.ensures, ← c.less_one-count.ensures, ← c.put_reg.ensures) (rw w.go-is at c.go.ensures)
      | else-may w ↦ rw (w.if-may.false, ← c.ahead_of-next.ensures, ← c.reg.ensures, ← c.less_one-count.ensures, ← c.put_reg.ensures) (rw (w.go-is, w.if-may.false) at c.go.ensures)
    ]
