use Rattle.outer.proofs.Crossings.{run_away, run_back, run_meets}
use Rattle.outer.proofs.spectra46_run.Goals as goal

pub returns-then-reply-ne6-clause-whole : goal.returns-then-reply-ne6-clause-whole
returns-then-reply-ne6-clause-whole c = search run_away

pub returns-then-reply-ne6-clause-demands : goal.returns-then-reply-ne6-clause-demands
returns-then-reply-ne6-clause-demands c = run_meets c.args.mem.now c.args.map.now c.args.regs.now c.args.reply.now c.args.mem.now c.args.map.now c.args.regs.now c.args.reply.now 6 c.args.budget (search run_away)

pub returns-clause-whole : goal.returns-clause-whole
returns-clause-whole c = search run_back

pub returns-clause-demands : goal.returns-clause-demands
returns-clause-demands c = run_meets c.args.mem.now c.args.map.now c.args.regs.now c.args.reply.now c.run-r.new.mem c.run-r.new.map c.run-r.new.regs c.put_reply.new.reply c.run-r.result.number c.args.budget (search run_back)
