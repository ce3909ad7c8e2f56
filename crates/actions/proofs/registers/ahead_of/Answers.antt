use native.Mathlib.Omega.{arith}
use Rattle.machine.specs.Cpu.{ahead}
use Rattle.actions.proofs.registers.ahead_of.Goals as goal

pub returns : goal.returns
unfolding ahead
returns c = omega arith
