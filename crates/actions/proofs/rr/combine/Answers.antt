use Rattle.actions.proofs.Executed.{rr_split}
use Rattle.code.specs.declared.RrAction.TheVariants.{Registers}
use Rattle.machine.specs.Rr.{rr}
use Rattle.machine.specs.Cpu.{reg}
use Rattle.actions.proofs.rr.combine.Goals as goal

pub returns : goal.returns
returns c = rr_split (Registers c.args.op) c.split_rr-f.result c.args.h1 _ _ c.split_rr-f.ensures (unfold rr reg in rw (← c.reg-a.ensures, ← c.reg-b.ensures, ← c.combine-result.ensures, ← c.put_reg.ensures, ← c.ahead_of-next.ensures))
