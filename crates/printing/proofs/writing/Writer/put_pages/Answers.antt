use mathlib.Core.Logic.{inl, inr}
use Rattle.printing.proofs.WritingLoops.{all_left, pages_turn, pages_end}
use Rattle.printing.proofs.writing.Writer.put_pages.Goals as goal

pub loop-n-init : goal.loop-n-init
loop-n-init c = all_left _ _ _ cc

pub loop-n-preserved : goal.loop-n-preserved
loop-n-preserved c =
    let steps = c.in-Some.ensures.steps in
    pages_turn _ _ _ _ _ _ _ c.loop-n.invariant _ _ _ _ _ _ steps.1 steps.2 steps.0.0 steps.0.1 c.page_part.ensures

pub returns : goal.returns
returns c =
    pages_end _ _ c.loop-n.self _ _ _ _ c.loop-n.invariant
    (elim c.in-None.ensures.steps.0 [ inl e ↦ inl e.1.0 | inr e ↦ inr e.1.0 ])
