use Rattle.fields.proofs.Shorts.{order_low, order_high, order_same}
use Rattle.fields.proofs.blocks.order_of.Goals as goal

pub returns-then-x-y : goal.returns-then-x-y
returns-then-x-y c = order_low _ _ c.if-x-y.true

pub returns-then-y-x : goal.returns-then-y-x
returns-then-y-x c = order_high _ _ c.if-y-x.true

pub returns : goal.returns
returns c = order_same _ _ c.if-x-y.false c.if-y-x.false
