use Rattle.printing.proofs.Joined.{answer_joined}
use Rattle.printing.proofs.Lengths.{answer_long}
use Rattle.printing.proofs.Filled.{filled}
use Rattle.printing.proofs.answer.Goals as goal

pub returns : goal.returns
returns c =
    let all = answer_joined _ _ _ _ _ _ _ _ _ _ _ _ _ _ c.stop_line.ensures c.put_regs.ensures c.start_line.ensures c.put_pages.ensures in
    let long = answer_long c.args.number c.args.place c.args.count c.args.pc c.args.code c.args.mask c.args.regs.now c.args.before.now
    c.args.after.now c.requires.0 c.requires.1 in
    search filled
