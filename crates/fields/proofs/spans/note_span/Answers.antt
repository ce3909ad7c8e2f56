use Rattle.fields.proofs.Spanned.{noted_one, noted_two}
use Rattle.fields.proofs.spans.note_span.Goals as goal

pub returns-then-len-n : goal.returns-then-len-n
returns-then-len-n c = noted_two _ _ _ _ c.requires _ c.mark.ensures c.if-len-n.true _ c.past_of.ensures _ c.mark-then-len-n.ensures

pub returns-else-len-n : goal.returns-else-len-n
returns-else-len-n c = noted_one _ _ _ _ c.requires _ c.mark.ensures c.if-len-n.false
