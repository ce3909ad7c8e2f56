use Rattle.std.proofs.Common.{◌∙◌}
use Rattle.fields.proofs.Shorts.{ones_first_lem, ones_middle, ones_last, wider}
use Rattle.fields.proofs.blocks.ordered_ones.Goals as goal

pub overflow_cast-mem : goal.overflow_cast-mem
overflow_cast-mem c = wider _ (c.type_inv.mem _)

pub overflow_cast-mem-then-mem-first : goal.overflow_cast-mem-then-mem-first
overflow_cast-mem-then-mem-first c = wider _ (c.type_inv.mem _)

pub returns-then-mem-first : goal.returns-then-mem-first
returns-then-mem-first c =
    c.order_of.ensures ∙ ones_first_lem _ _ _ _ c.requires.0 c.requires.1 c.if-mem-first.true

pub overflow_cast-mem-then-mem-first-2 : goal.overflow_cast-mem-then-mem-first-2
overflow_cast-mem-then-mem-first-2 c = wider _ (c.type_inv.mem _)

pub overflow_cast-mem-then-mem-first-2-2 : goal.overflow_cast-mem-then-mem-first-2-2
overflow_cast-mem-then-mem-first-2-2 c = wider _ (c.type_inv.mem _)

pub returns-then-mem-first-2 : goal.returns-then-mem-first-2
returns-then-mem-first-2 c =
    c.order_of-then-mem-first-2.ensures ∙ ones_middle _ _ _ _ c.requires.0 c.requires.1 c.if-mem-first.false c.if-mem-first-2.true

pub overflow_cast-mem-2 : goal.overflow_cast-mem-2
overflow_cast-mem-2 c = wider _ (c.type_inv.mem _)

pub overflow_cast-mem-3 : goal.overflow_cast-mem-3
overflow_cast-mem-3 c = wider _ (c.type_inv.mem _)

pub returns : goal.returns
returns c =
    c.order_of-2.ensures ∙ ones_last _ _ _ _ c.requires.0 c.requires.1 c.if-mem-first.false c.if-mem-first-2.false
