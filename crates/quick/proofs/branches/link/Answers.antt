use mathlib.Core.Path.{◌∙◌, ap}
use Rattle.code.specs.declared.Branch.TheVariants.{AndLink}
use Rattle.code.specs.Formats.{left_of}
use Rattle.machine.specs.Prog.{done}
use Rattle.machine.specs.Branches.{branch, link}
use Rattle.actions.specs.declared.Now.{Now}
use Rattle.actions.specs.Answered.{cpu_of}
use Rattle.quick.proofs.Branching.{went, stayed, and_link}
use Rattle.quick.proofs.branches.link.Goals as goal

pub returns-then-may : goal.returns-then-may
returns-then-may c = went c.args.p c.args.regs.now _ (λ x. done (branch AndLink c.args.len (left_of c.args.p.text) c.args.to c.args.may x)) _ c.args.to c.args.len (and_link c.args.p c.args.regs.now c.args.len (left_of c.args.p.text) c.args.to c.args.may _ _ (c.link_word-word.ensures ∙ ap (λ (x : Now). link (cpu_of c.args.regs.now x) c.args.len) c.state.ensures) c.put_reg.ensures) c.if-may.true _ c.go.ensures

pub returns : goal.returns
returns c = stayed c.args.p c.args.regs.now _ (λ x. done (branch AndLink c.args.len (left_of c.args.p.text) c.args.to c.args.may x)) _ c.args.to c.args.len (and_link c.args.p c.args.regs.now c.args.len (left_of c.args.p.text) c.args.to c.args.may _ _ (c.link_word-word.ensures ∙ ap (λ (x : Now). link (cpu_of c.args.regs.now x) c.args.len) c.state.ensures) c.put_reg.ensures) c.requires.1 c.requires.0 c.if-may.false
