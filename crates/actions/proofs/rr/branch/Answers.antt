use Rattle.actions.proofs.Executed.{rr_split}
use Rattle.code.specs.declared.RrAction.TheVariants.{RegisterBranch}
use Rattle.machine.specs.Rr.{rr}
use Rattle.machine.specs.Cpu.{reg}
use Rattle.machine.specs.Prog.{done}
use mathlib.Core.Path.{ap}
use Rattle.actions.proofs.rr.branch.Goals as goal

pub returns : goal.returns
returns c = rr_split (RegisterBranch c.args.kind) c.split_rr-f.result c.args.h1 _ _ c.split_rr-f.ensures (unfold rr reg in rw (← c.reg-to.ensures) (ap done c.take.ensures))
