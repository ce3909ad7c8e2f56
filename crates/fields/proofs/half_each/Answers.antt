use Rattle.std.proofs.Common.{◌∙◌}
use Rattle.pages.specs.Word.{next}
use Rattle.fields.proofs.Widths.{half_is}
use Rattle.fields.proofs.half_each.Goals as goal

pub returns : goal.returns
unfolding next
returns c = half_is _ _ _ _ _ (c.from.ensures ∙ c.read_byte-high.ensures) c.past_of.ensures (c.from-2.ensures ∙ c.read_byte-low.ensures)
