use Rattle.std.proofs.Common.{sym, ◌∙◌, arith, eq-eqb, eqb-true}
use Rattle.fields.proofs.Stretches.{alike_eight, eight_first_lem, eight_second}
use Rattle.fields.proofs.blocks.is_eight.Goals as goal

pub returns-then-word_of : goal.returns-then-word_of
returns-then-word_of c = (
  λ z. cc,
  λ z. absurd (c.if-word_of.true (c.word_of.ensures ∙ eight_first_lem _ _ _ z ∙ sym c.word_of-2.ensures)),
)

pub returns : goal.returns
returns c = (
  λ z. alike_eight _ _ _ (λ i. omega (arith, c.type_inv.mem i))
      (omega (arith, c.word_of.ensures, c.word_of-2.ensures, c.if-word_of.false))
      (sym c.word_of-3.ensures ∙ eqb-true _ _ z ∙ c.word_of-4.ensures),
  λ z. eq-eqb _ _ (c.word_of-3.ensures ∙ eight_second _ _ _ z ∙ sym c.word_of-4.ensures),
)
