use mathlib.Core.Path.{sym}
use lib.Seq.{set_out}
use Rattle.actions.proofs.registers.put_at.Goals as goal

pub returns-else-k-regs : goal.returns-else-k-regs
returns-else-k-regs c = sym (set_out _ _ _ c.if-k-regs.false)
