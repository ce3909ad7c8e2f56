use borrow.Author.Tests.{lt-ltb, le-ltb}
use Rattle.code.specs.declared.Branch.TheVariants.{OnCount}
use Rattle.code.specs.Formats.{left_of}
use Rattle.machine.specs.Prog.{done}
use Rattle.machine.specs.Branches.{branch}
use Rattle.quick.proofs.Branching.{went, stayed, both_true, both_left, both_right, on_count}
use Rattle.quick.proofs.branches.count.Goals as goal

pub returns-then-v-gt0 : goal.returns-then-v-gt0
returns-then-v-gt0 c = went c.args.p c.args.regs.now _ (λ x. done (branch OnCount c.args.len (left_of c.args.p.text) c.args.to c.args.may x)) _ c.args.to c.args.len (on_count c.args.p c.args.regs.now c.args.len (left_of c.args.p.text) c.args.to c.args.may _ _ _ c.reg.ensures c.less_one-v.ensures c.put_reg.ensures) (both_true _ _ c.if-may.true (lt-ltb _ _ c.if-v-gt0.true)) _ c.go.ensures

pub returns-then-may : goal.returns-then-may
returns-then-may c = stayed c.args.p c.args.regs.now _ (λ x. done (branch OnCount c.args.len (left_of c.args.p.text) c.args.to c.args.may x)) _ c.args.to c.args.len (on_count c.args.p c.args.regs.now c.args.len (left_of c.args.p.text) c.args.to c.args.may _ _ _ c.reg.ensures c.less_one-v.ensures c.put_reg.ensures) c.requires.1 c.requires.0 (both_right _ _ c.if-may.true (le-ltb _ _ c.if-v-gt0.false))

pub returns : goal.returns
returns c = stayed c.args.p c.args.regs.now _ (λ x. done (branch OnCount c.args.len (left_of c.args.p.text) c.args.to c.args.may x)) _ c.args.to c.args.len (on_count c.args.p c.args.regs.now c.args.len (left_of c.args.p.text) c.args.to c.args.may _ _ _ c.reg.ensures c.less_one-v.ensures c.put_reg.ensures) c.requires.1 c.requires.0 (both_left _ _ c.if-may.false)
