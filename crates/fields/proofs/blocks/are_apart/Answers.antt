use Rattle.fields.proofs.Shorts.{apart_left, apart_past}
use Rattle.fields.proofs.blocks.are_apart.Goals as goal

pub returns-then-to-from : goal.returns-then-to-from
returns-then-to-from c = apart_left _ _ _ c.if-to-from.true

pub returns : goal.returns
returns c = apart_past _ _ _ c.if-to-from.false
