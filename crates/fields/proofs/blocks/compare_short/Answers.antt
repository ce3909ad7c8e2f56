use Rattle.std.proofs.Common.{◌≡◌, ◌+◌, ◌-◌, sym, ap, ◌∙◌, arith}
use Rattle.fields.specs.Direct.{flat_compare}
use Rattle.fields.proofs.Shorts.{unlike_on, alike_then}
use Rattle.fields.proofs.blocks.compare_short.Goals as goal

pub returns-then-n-lt9 : goal.returns-then-n-lt9
returns-then-n-lt9 c =
    let e : c.args.n - 4 + 4 ≡ c.args.n = omega arith in
    c.ordered_four.ensures ∙ ap (flat_compare _ _ _) e

pub returns-then-k-ne0 : goal.returns-then-k-ne0
returns-then-k-ne0 c =
    let f = c.ordered_four-k.ensures in
    f ∙ unlike_on 8 _ _ _ _ (λ z. c.if-k-ne0.true (f ∙ z)) (omega arith)

pub returns : goal.returns
returns c =
    let e : c.args.n - 8 + 8 ≡ c.args.n = omega arith in
    c.ordered_four-2.ensures
    ∙ alike_then 8 _ _ _ _ 8 (sym c.ordered_four-k.ensures ∙ c.if-k-ne0.false) (omega arith)
    ∙ ap (flat_compare _ _ _) e
