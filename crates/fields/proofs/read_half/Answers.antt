use Rattle.std.proofs.Common.{sym, ◌∙◌, arith}
use Rattle.pages.proofs.ReachLaws.{reach_inside}
use Rattle.fields.proofs.Reached.{reach_read}
use Rattle.fields.proofs.read_half.Goals as goal

pub half_of-requires : goal.half_of-requires
half_of-requires c = omega (arith, c.if-found-ge2.true, reach_inside _ _ _ _ _ _ (sym c.in-Ok.ensures))

pub returns-in-Ok : goal.returns-in-Ok
returns-in-Ok c = c.half_of.ensures ∙ reach_read _ _ _ _ _ (sym c.in-Ok.ensures) _ c.if-found-ge2.true _
