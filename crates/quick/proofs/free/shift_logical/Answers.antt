use native.Mathlib.Omega.{arith}
use mathlib.Core.Path.{refl, ◌∙◌, ap}
use Prim.Native.Nat.{◌+◌}
use Rattle.rs_ss.specs.Logical.{logical_shift}
use Rattle.code.specs.Formats.{rs_of}
use Rattle.machine.specs.Rs.{rs}
use Rattle.fields.specs.Direct.{flat}
use Rattle.quick.proofs.Answered.{settled, shift_pc, shift_mask}
use Rattle.quick.proofs.free.shift_logical.Goals as goal

pub returns : goal.returns
returns c = settled c.args.p c.args.regs.now _ 4 refl (omega arith) c.shift_logical-n.result (rs (logical_shift c.args.to)) _ (rs_of c.args.p.text (flat c.args.mem.now (c.args.p.at + 2) 2 0)) (c.split_rs-f.ensures ∙ ap (rs_of c.args.p.text) c.half_of.ensures) _ c.state.ensures c.shift_logical-n.ensures (shift_pc c.args.to _ _) (shift_mask c.args.to _ _)
