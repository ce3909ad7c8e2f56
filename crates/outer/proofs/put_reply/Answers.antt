use Rattle.outer.proofs.Crossings.{fifth_in, sixth_in, put_six, put_none}
use Rattle.outer.proofs.put_reply.Goals as goal

pub bounds-reply-4 : goal.bounds-reply-4
bounds-reply-4 c = search fifth_in

pub bounds-reply-5 : goal.bounds-reply-5
bounds-reply-5 c = search sixth_in

pub returns-then-reply-eq6 : goal.returns-then-reply-eq6
returns-then-reply-eq6 c = put_six c.args.reply.now c.args.r c.if-reply-eq6.true

pub returns-else-reply-eq6 : goal.returns-else-reply-eq6
returns-else-reply-eq6 c = put_none c.args.reply.now c.args.r c.if-reply-eq6.false
