use Rattle.fields.proofs.Widths.{off_of, never_off}
use Rattle.std.proofs.Common.{◌∙◌}
use Rattle.fields.proofs.is_off.Goals as goal

pub returns-in-Word : goal.returns-in-Word
returns-in-Word c = off_of _ _ c.in-Word.is _

pub returns-in-Half : goal.returns-in-Half
returns-in-Half c = off_of _ _ c.in-Half.is _

pub returns-in-Byte : goal.returns-in-Byte
returns-in-Byte c = never_off c.args.at ∙ off_of _ _ c.in-Byte.is _
