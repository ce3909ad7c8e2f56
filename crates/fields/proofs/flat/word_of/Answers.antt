use Rattle.fields.proofs.Widths.{flat_word}
use Rattle.fields.proofs.flat.word_of.Goals as goal

pub returns : goal.returns
returns c = rw (c.from.ensures, c.from-2.ensures, c.from-3.ensures, c.from-4.ensures) (flat_word _ _)
