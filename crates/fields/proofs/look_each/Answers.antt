use Rattle.std.proofs.Common.{sym, ◌∙◌}
use Rattle.pages.proofs.LookLaws.{handed_on}
use Rattle.fields.specs.Direct.{look_fields}
use Rattle.fields.proofs.look_each.Goals as goal

pub returns-in_err-look_field : goal.returns-in_err-look_field
unfolding look_fields
returns-in_err-look_field c = handed_on _ _ c.from_residual.ensures.1 ∙ sym (c.in_err-look_field.ensures _)

pub returns-in_err-look_field-2 : goal.returns-in_err-look_field-2
unfolding look_fields
returns-in_err-look_field-2 c = handed_on _ _ c.from_residual-in_err-look_field-2.ensures.1 ∙ sym (c.in_ok-look_field.ensures _ ∙ c.in_err-look_field-2.ensures _)

pub returns : goal.returns
unfolding look_fields
returns c = c.look_up.ensures ∙ sym (c.in_ok-look_field.ensures _ ∙ c.in_ok-look_field-2.ensures _)
