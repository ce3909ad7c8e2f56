use Rattle.std.proofs.Common.{sym, ap, refl, ◌∙◌, arith}
use Rattle.pages.specs.Look.{look_of}
use Rattle.pages.proofs.ReachLaws.{reach_some}
use Rattle.fields.proofs.Cleared.{behind_found, two_enough}
use Rattle.fields.proofs.Spanned.{span_one, span_two}
use Rattle.fields.proofs.spans.span_of.Goals as goal

pub returns-then-n-first : goal.returns-then-n-first
returns-then-n-first c = ((c.requires.0, span_one _ _ _ _ _ _ c.requires.1 _ c.if-n-first.true), λ l f. refl)

pub returns-in_default : goal.returns-in_default
returns-in_default c = (record {}, λ l f. absurd (behind_found _ _ _ _ _ _ _ c.requires.1 f c.if-n-first.false _ _ (ap (look_of _ _ _) (sym c.past_of.ensures) ∙ sym c.in_default.ensures)))

pub returns-then-next-n : goal.returns-then-next-n
returns-then-next-n c = (record {}, λ l f. absurd (let m = two_enough _ _ _ _ _ _ _ c.requires.1 f c.if-n-first.false _ _ (ap (look_of _ _ _) (sym c.past_of.ensures) ∙ sym c.in-Ok.ensures) (omega (arith, l)) in omega (arith, m, c.if-next-n.true)))

pub returns : goal.returns
returns c = ((reach_some _ _ _ _ _ _ c.requires.1, span_two _ _ _ _ _ _ c.requires.1 _ _ _ (ap (look_of _ _ _) (sym c.past_of.ensures) ∙ sym c.in-Ok.ensures) c.if-n-first.false c.if-next-n.false), λ l f. refl)
