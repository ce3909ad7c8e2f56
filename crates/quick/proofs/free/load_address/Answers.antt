use native.Mathlib.Omega.{arith}
use mathlib.Core.Path.{refl, ◌∙◌, ap}
use Prim.Native.Nat.{◌+◌}
use Rattle.code.specs.declared.RxAction.TheVariants.{LoadAddress}
use Rattle.code.specs.Formats.{rx_of}
use Rattle.machine.specs.Rx.{rx}
use Rattle.fields.specs.Direct.{flat}
use Rattle.quick.proofs.Answered.{settled}
use Rattle.quick.proofs.free.load_address.Goals as goal

pub returns : goal.returns
unfolding rx
returns c = settled c.args.p c.args.regs.now _ 4 refl (omega arith) c.load_address-n.result (rx LoadAddress) _ (rx_of c.args.p.text (flat c.args.mem.now (c.args.p.at + 2) 2 0)) (c.split_rx-f.ensures ∙ ap (rx_of c.args.p.text) c.half_of.ensures) _ c.state.ensures c.load_address-n.ensures refl refl
