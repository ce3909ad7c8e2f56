use Rattle.machine.specs.Cpu.{reg}
use Rattle.machine.specs.Pairs.{pair}
use Rattle.actions.proofs.registers.pair_of.Goals as goal

pub returns : goal.returns
unfolding pair reg
returns c = rw (← c.from-k.ensures, ← c.at-left.ensures, ← c.at-right.ensures, c.from.ensures, c.from-2.ensures)
