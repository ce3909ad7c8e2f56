use Rattle.std.proofs.Common.{sym, refl, ◌∙◌}
use Rattle.pages.proofs.LookLaws.{handed_on}
use Rattle.fields.proofs.Found.{operand_refused, operand_cut}
use Rattle.fields.proofs.Reached.{reach_one}
use Rattle.fields.proofs.look_operand.Goals as goal

pub returns-in_err-found : goal.returns-in_err-found
returns-in_err-found c = handed_on _ _ c.from_residual.ensures.1 ∙ operand_refused _ _ _ _ _ _ c.in_err-found.ensures _ _ refl

pub returns-then-found-len : goal.returns-then-found-len
returns-then-found-len c = operand_cut _ _ _ _ _ _ c.in_ok-found.ensures _ _ refl c.requires c.if-found-len.true

pub returns : goal.returns
returns c = reach_one _ _ _ _ _ _ (sym c.in_ok-found.ensures) _ c.if-found-len.false
