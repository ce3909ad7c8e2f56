use Rattle.fields.proofs.Widths.{put_word_is}
use Rattle.fields.proofs.flat.put_word.Goals as goal

pub returns : goal.returns
returns c = put_word_is _ _ _ _ _ _ _ c.put_byte.ensures c.put_byte-2.ensures c.put_byte-3.ensures c.put_byte-4.ensures
