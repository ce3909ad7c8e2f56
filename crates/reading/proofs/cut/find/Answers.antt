use mathlib.Core.Path.{◌≡◌, ap, ◌∙◌}
use lib.Dec.{eqb}
use lib.ListN.{length}
use Prim.Native.Nat.{ℕ}
use Rattle.std.specs.List.{position}
use Rattle.std.specs.Option.{unwrap_or}
use Rattle.std.proofs.Common.{rules, arith, Option, tests}
use Rattle.std.proofs.lemmas.Iterator.{YieldsList-from_slice}
use Rattle.std.proofs.lemmas.Iterator.Search.{position_from_yields_List}
use Rattle.reading.specs.Cut.{span}
use Rattle.reading.proofs.Cuts.{find_is, span_within}
use Rattle.reading.proofs.cut.find.Goals as goal

pub returns : goal.returns
returns c =
    let p : c.position.result ≡ position (λ b. eqb b c.args.mark) c.args.s.now =
    position_from_yields_List (λ b. eqb b c.args.mark) _ _ c.position.result c.position.ensures.ran (YieldsList-from_slice c.args.s.now (cc)) (λ x b q k. search (rules, tests)) in
    let e : c.unwrap_or.result ≡ span c.args.mark c.args.s.now =
    find_is c.args.mark c.args.s.now c.unwrap_or.result (c.unwrap_or.ensures ∙ ap (λ (o : Option ℕ). unwrap_or o (length c.args.s.now)) p) in
    (e, omega (arith, span_within c.args.mark c.args.s.now))
