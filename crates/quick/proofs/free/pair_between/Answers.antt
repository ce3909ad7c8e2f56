use native.Mathlib.Omega.{arith}
use mathlib.Core.Path.{refl}
use Rattle.quick.proofs.Answered.{ended_not, out_stopped, rr_paired}
use Rattle.quick.proofs.free.pair_between.Goals as goal

pub returns-in_default : goal.returns-in_default
returns-in_default c = ended_not c.args.p _ c.undone.ensures _ _ _ (out_stopped _ _ _ _ _ c.pair-out.ensures c.in_default.is)

pub returns : goal.returns
returns c = rr_paired c.args.p c.args.regs.now _ 2 refl (omega arith) _ _ c.in-Ok.is _ c.state.ensures c.args.op c.args.p.text c.pair-out.ensures refl
