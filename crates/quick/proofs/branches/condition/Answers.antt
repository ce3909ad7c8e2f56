use mathlib.Core.Path.{sym, ◌∙◌}
use Rattle.code.specs.declared.Branch.TheVariants.{OnCondition}
use Rattle.code.specs.Formats.{left_of}
use Rattle.machine.specs.Prog.{done}
use Rattle.machine.specs.Branches.{branch}
use Rattle.quick.proofs.Branching.{went, stayed, both_true, both_left, both_right, on_condition}
use Rattle.quick.proofs.branches.condition.Goals as goal

pub returns-then-is_chosen : goal.returns-then-is_chosen
returns-then-is_chosen c = went c.args.p c.args.regs.now _ (λ x. done (branch OnCondition c.args.len (left_of c.args.p.text) c.args.to c.args.may x)) _ c.args.to c.args.len (on_condition c.args.p c.args.regs.now c.args.len (left_of c.args.p.text) c.args.to c.args.may) (both_true _ _ c.if-may.true (sym c.is_chosen.ensures ∙ c.if-is_chosen.true)) _ c.go.ensures

pub returns-then-may : goal.returns-then-may
returns-then-may c = stayed c.args.p c.args.regs.now _ (λ x. done (branch OnCondition c.args.len (left_of c.args.p.text) c.args.to c.args.may x)) _ c.args.to c.args.len (on_condition c.args.p c.args.regs.now c.args.len (left_of c.args.p.text) c.args.to c.args.may) c.requires.1 c.requires.0 (both_right _ _ c.if-may.true (sym c.is_chosen.ensures ∙ c.if-is_chosen.false))

pub returns : goal.returns
returns c = stayed c.args.p c.args.regs.now _ (λ x. done (branch OnCondition c.args.len (left_of c.args.p.text) c.args.to c.args.may x)) _ c.args.to c.args.len (on_condition c.args.p c.args.regs.now c.args.len (left_of c.args.p.text) c.args.to c.args.may) c.requires.1 c.requires.0 (both_left _ _ c.if-may.false)
