use Rattle.code.specs.declared.Operand.TheVariants.{WordWith}
use Rattle.quick.proofs.Answered.{did_not, lies_room}
use Rattle.quick.proofs.Loaded.{word_taken, took}
use Rattle.quick.proofs.storage.word.Goals as goal

pub returns-in_default : goal.returns-in_default
returns-in_default c = did_not c.args.p _ c.undone.ensures _ _ _ _ _

pub returns-then-s-lt4 : goal.returns-then-s-lt4
returns-then-s-lt4 c = did_not c.args.p _ c.undone-then-s-lt4.ensures _ _ _ _ _

pub word_of-v-requires : goal.word_of-v-requires
word_of-v-requires c = lies_room _ _ _ _ 4 c.requires c.in-Some.is c.if-s-lt4.false

pub returns : goal.returns
returns c = took c.args.p c.args.found c.in-Some.s.at c.in-Some.s.reach c.in-Some.is c.args.mem.now c.args.regs.now _ c.combine-result.result (WordWith c.args.op) c.if-s-lt4.false (word_taken c.args.p.text c.args.p.code c.args.mem.now c.args.regs.now c.in-Some.s.at _ c.reg.ensures _ c.args.op _ c.word_of-v.ensures c.combine-result.ensures) c.put_reg.ensures
