use native.Mathlib.Omega.{arith}
use mathlib.Core.Path.{refl, ◌∙◌, ap}
use Prim.Native.Nat.{◌+◌}
use Rattle.code.specs.Formats.{rs_of}
use Rattle.fields.specs.Direct.{flat}
use Rattle.quick.proofs.Answered.{ended_not, out_stopped, rs_doubled}
use Rattle.quick.proofs.free.shift_double.Goals as goal

pub returns-in_default : goal.returns-in_default
returns-in_default c = ended_not c.args.p _ c.undone.ensures _ _ _ (out_stopped _ _ _ _ _ c.shift_double-out.ensures c.in_default.is)

pub returns : goal.returns
returns c = rs_doubled c.args.p c.args.regs.now _ 4 refl (omega arith) _ _ c.in-Ok.is _ c.state.ensures c.args.to _ (rs_of c.args.p.text (flat c.args.mem.now (c.args.p.at + 2) 2 0)) (c.split_rs-f.ensures ∙ ap (rs_of c.args.p.text) c.half_of.ensures) c.shift_double-out.ensures refl
