use Rattle.code.specs.declared.Operand.TheVariants.{HalfWith}
use Rattle.quick.proofs.Answered.{did_not, lies_room}
use Rattle.quick.proofs.Loaded.{half_taken, took}
use Rattle.quick.proofs.storage.half.Goals as goal

pub returns-in_default : goal.returns-in_default
returns-in_default c = did_not c.args.p _ c.undone.ensures _ _ _ _ _

pub returns-then-s-lt2 : goal.returns-then-s-lt2
returns-then-s-lt2 c = did_not c.args.p _ c.undone-then-s-lt2.ensures _ _ _ _ _

pub half_of-requires : goal.half_of-requires
half_of-requires c = lies_room _ _ _ _ 2 c.requires c.in-Some.is c.if-s-lt2.false

pub returns : goal.returns
returns c = took c.args.p c.args.found c.in-Some.s.at c.in-Some.s.reach c.in-Some.is c.args.mem.now c.args.regs.now _ c.combine-result.result (HalfWith c.args.op) c.if-s-lt2.false (half_taken c.args.p.text c.args.p.code c.args.mem.now c.args.regs.now c.in-Some.s.at _ c.reg.ensures _ c.args.op _ _ c.half_of.ensures c.widen-v.ensures c.combine-result.ensures) c.put_reg.ensures
