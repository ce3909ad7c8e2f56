use Rattle.std.proofs.Common.{rules}
use Rattle.reading.proofs.ReadLines.{read_long, read_all}
use Rattle.reading.proofs.read_sheet.Goals as goal

pub returns-then-sheet-gt65536 : goal.returns-then-sheet-gt65536
returns-then-sheet-gt65536 c = search read_long

pub returns : goal.returns
returns c =
    read_all c.args.mem.now c.args.map.now c.args.regs.now c.args.sheet.now c.if-sheet-gt65536.false
    c.read_lines.result c.read_lines.new.self c.read_lines.ensures.reads _ _ _ (search rules) (search rules) (search rules)
