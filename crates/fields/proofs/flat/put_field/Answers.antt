use Rattle.std.proofs.Common.{◌∙◌, arith}
use Rattle.fields.proofs.Widths.{room_of, put_of, put_low_half, put_low_byte}
use Rattle.fields.proofs.flat.put_field.Goals as goal

pub put_word-requires : goal.put_word-requires
put_word-requires c = room_of _ _ c.in-Word.is _ _ c.requires

pub put_half-requires : goal.put_half-requires
put_half-requires c = room_of _ _ c.in-Half.is _ _ c.requires

pub put_byte-requires : goal.put_byte-requires
put_byte-requires c = let h = room_of _ _ c.in-Byte.is _ _ c.requires in omega (arith, h)

pub returns-in-Word : goal.returns-in-Word
returns-in-Word c = put_of _ _ c.in-Word.is _ _ _ _ c.put_word.ensures

pub returns-in-Half : goal.returns-in-Half
returns-in-Half c = put_of _ _ c.in-Half.is _ _ _ _ (c.put_half.ensures ∙ put_low_half _ _ _)

pub returns-in-Byte : goal.returns-in-Byte
returns-in-Byte c = put_of _ _ c.in-Byte.is _ _ _ _ (c.put_byte.ensures ∙ put_low_byte _ _ _)
