use native.Mathlib.Omega.{arith}
use mathlib.Core.Path.{refl}
use Rattle.code.specs.declared.RrAction.TheVariants.{Registers}
use Rattle.code.specs.Formats.{rr_of}
use Rattle.machine.specs.Rr.{rr}
use Rattle.quick.proofs.Answered.{settled}
use Rattle.quick.proofs.free.between.Goals as goal

pub returns : goal.returns
unfolding rr
returns c = settled c.args.p c.args.regs.now _ 2 refl (omega arith) c.combine-n.result (rr (Registers c.args.op)) _ (rr_of c.args.p.text) refl _ c.state.ensures c.combine-n.ensures refl refl
