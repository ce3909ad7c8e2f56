use Rattle.fields.proofs.Widths.{flat_half}
use Rattle.fields.proofs.flat.half_of.Goals as goal

pub returns : goal.returns
returns c = rw (c.from.ensures, c.from-2.ensures) (flat_half _ _)
