use mathlib.Core.Path.{refl, ◌∙◌}
use Prim.Native.Nat.{◌+◌, ◌*◌, ◌/◌}
use Rattle.words.specs.Combine.{result_of}
use Rattle.code.specs.declared.Operand.TheVariants.{ByteInserted}
use Rattle.quick.proofs.Answered.{did_not, lies_byte}
use Rattle.quick.proofs.Loaded.{byte_taken, took}
use Rattle.quick.proofs.storage.insert.Goals as goal

pub returns-in_default : goal.returns-in_default
returns-in_default c = did_not c.args.p _ c.undone.ensures _ _ _ _ _

pub returns-then-s-lt1 : goal.returns-then-s-lt1
returns-then-s-lt1 c = did_not c.args.p _ c.undone-then-s-lt1.ensures _ _ _ _ _

pub byte_of-b-requires : goal.byte_of-b-requires
byte_of-b-requires c = lies_byte _ _ _ _ c.requires c.in-Some.is c.if-s-lt1.false

pub returns : goal.returns
returns c = took c.args.p c.args.found c.in-Some.s.at c.in-Some.s.reach c.in-Some.is c.args.mem.now c.args.regs.now _ (result_of (c.reg-x.result / 256 * 256 + c.from.result) c.args.p.code) ByteInserted c.if-s-lt1.false (byte_taken c.args.p.text c.args.p.code c.args.mem.now c.args.regs.now c.in-Some.s.at _ c.reg-x.ensures _ _ (c.from.ensures ∙ c.byte_of-b.ensures) refl) c.put_reg.ensures
