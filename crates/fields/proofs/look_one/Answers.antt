use Rattle.std.proofs.Common.{sym, refl, ◌∙◌}
use Rattle.pages.proofs.LookLaws.{handed_on}
use Rattle.fields.specs.Direct.{look_one}
use Rattle.fields.proofs.Found.{operand_refused}
use Rattle.fields.proofs.Reached.{reach_one}
use Rattle.fields.proofs.look_one.Goals as goal

pub returns-in_err-found : goal.returns-in_err-found
returns-in_err-found c = handed_on _ _ c.from_residual.ensures.1 ∙ operand_refused _ _ _ _ _ _ c.in_err-found.ensures _ _ refl

pub returns-then-len-found : goal.returns-then-len-found
returns-then-len-found c = reach_one _ _ _ _ _ _ (sym c.in_ok-found.ensures) _ c.if-len-found.true

pub returns-in_err-look_field : goal.returns-in_err-look_field
unfolding look_one
returns-in_err-look_field c = handed_on _ _ c.from_residual-in_err-look_field.ensures.1 ∙ sym (c.in_err-look_field.ensures _)

pub returns : goal.returns
unfolding look_one
returns c = c.in_ok-found.ensures ∙ sym (c.in_ok-look_field.ensures _)
