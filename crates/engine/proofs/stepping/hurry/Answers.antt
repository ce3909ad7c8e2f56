use mathlib.Core.Path.{sym, ◌∙◌}
use Rattle.engine.proofs.Spins.{went_still}
use Rattle.engine.proofs.stepping.hurry.Goals as goal

pub spin-requires : goal.spin-requires
spin-requires c = (c.in-Some.ensures, sym c.is_inside.ensures ∙ c.if-is_inside.true, c.if-c-eq0.true)

pub returns : goal.returns
returns c = went_still _ _ _ _ _ _ c.still.ensures
