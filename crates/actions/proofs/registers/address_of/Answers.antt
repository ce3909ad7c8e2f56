use native.Mathlib.Omega.{arith}
use Rattle.machine.specs.Cpu.{address}
use Rattle.actions.proofs.registers.address_of.Goals as goal

pub returns : goal.returns
unfolding address
returns c = rw (← c.part_of-index.ensures, ← c.part_of-base.ensures, ← c.from.ensures) (omega arith)
