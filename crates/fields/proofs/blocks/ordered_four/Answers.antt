use Rattle.std.proofs.Common.{arith}
use Rattle.fields.proofs.Shorts.{four_first, four_second}
use Rattle.fields.proofs.blocks.ordered_four.Goals as goal

pub returns-then-x-y : goal.returns-then-x-y
returns-then-x-y c =
    four_first _ _ _ _ (λ i. omega (arith, c.type_inv.mem i)) c.requires.0 _ _ _
    c.word_of-x.ensures c.word_of-y.ensures c.if-x-y.true c.order_of.ensures

pub returns : goal.returns
returns c =
    four_second _ _ _ _ (λ i. omega (arith, c.type_inv.mem i)) c.requires.0 _ _ _ _ _
    c.word_of-x.ensures c.word_of-y.ensures c.if-x-y.false c.word_of.ensures c.word_of-2.ensures
    c.order_of-2.ensures
