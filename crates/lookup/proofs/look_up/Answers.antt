use mathlib.Core.Path.{refl, ◌∙◌}
use Rattle.pages.specs.Word.{disp_of}
use Rattle.lookup.proofs.Answers.{look_high, look_barred, look_past, look_out, look_found}
use Rattle.lookup.proofs.look_up.Goals as goal

pub returns-then-a-ge2097152 : goal.returns-then-a-ge2097152
returns-then-a-ge2097152 c = c.refused.ensures ∙ look_high _ _ _ _ c.if-a-ge2097152.true

pub returns-then-is_barred : goal.returns-then-is_barred
returns-then-is_barred c = c.refused-then-is_barred.ensures ∙ look_barred _ _ _ _ c.if-a-ge2097152.false _ c.word_for-w.ensures _ c.is_barred.ensures c.if-is_barred.true _ c.cause_of.ensures

pub returns-then-rest-eq0 : goal.returns-then-rest-eq0
returns-then-rest-eq0 c = c.refused-then-rest-eq0.ensures ∙ look_past _ _ _ _ c.if-a-ge2097152.false _ c.word_for-w.ensures _ c.is_barred.ensures c.if-is_barred.false _ c.rest_of-rest.ensures.1 c.if-rest-eq0.true

pub returns-then-n-at : goal.returns-then-n-at
unfolding disp_of
returns-then-n-at c = c.refused-then-n-at.ensures ∙ look_out _ _ _ _ c.if-a-ge2097152.false _ c.word_for-w.ensures _ c.is_barred.ensures c.if-is_barred.false _ c.rest_of-rest.ensures.1 c.if-rest-eq0.false _ _ c.rest_of-rest.ensures.0 refl c.if-n-at.true

pub returns : goal.returns
unfolding disp_of
returns c = search look_found
