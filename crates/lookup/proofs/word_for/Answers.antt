use Rattle.pages.specs.Word.{page_of}
use Rattle.lookup.proofs.word_for.Goals as goal

pub returns : goal.returns
unfolding page_of
returns c = c.word_at.ensures
