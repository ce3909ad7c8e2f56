use Rattle.std.proofs.Common.{rules, arith}
use Rattle.fields.proofs.Shorts.{ends_met}
use Rattle.fields.proofs.blocks.ends.Goals as goal

pub returns : goal.returns
returns g c =
    ends_met c.args.n g.row.N _ _ _ _ _ _ _ c.requires.0 c.requires.1 c.requires.2 c.requires.3 c.requires.4
    (omega arith) (omega arith) (search rules) (search rules)
