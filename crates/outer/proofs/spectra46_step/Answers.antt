use Rattle.outer.proofs.Crossings.{step_away, step_back, step_meets}
use Rattle.outer.proofs.spectra46_step.Goals as goal

pub returns-then-reply-ne6-clause-whole : goal.returns-then-reply-ne6-clause-whole
returns-then-reply-ne6-clause-whole c = search step_away

pub returns-then-reply-ne6-clause-demands : goal.returns-then-reply-ne6-clause-demands
returns-then-reply-ne6-clause-demands c = step_meets c.args.mem.now c.args.map.now c.args.regs.now c.args.reply.now c.args.mem.now c.args.map.now c.args.regs.now c.args.reply.now 6 (search step_away)

pub returns-clause-whole : goal.returns-clause-whole
returns-clause-whole c = search step_back

pub returns-clause-demands : goal.returns-clause-demands
returns-clause-demands c = step_meets c.args.mem.now c.args.map.now c.args.regs.now c.args.reply.now c.step-r.new.mem c.step-r.new.map c.step-r.new.regs c.put_reply.new.reply c.step-r.result.number (search step_back)
