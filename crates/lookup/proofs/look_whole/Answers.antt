use mathlib.Core.Path.{refl, sym}
use Rattle.pages.specs.Word.{disp_of, word_of, page_of}
use Rattle.lookup.proofs.Answers.{look_found}
use Rattle.lookup.proofs.HasMarks.{in_memory, all_left_lem}
use Rattle.lookup.proofs.look_whole.Goals as goal

pub returns : goal.returns
unfolding disp_of word_of page_of
returns c = (
  sym (look_found _ _ _ _ c.if-a-ge2097152.false _ refl _ c.is_barred.ensures c.if-is_barred.false _ c.rest_of-rest.ensures.1 c.if-rest-eq0.false _ _ c.rest_of-rest.ensures.0 refl (in_memory _ _ _ c.if-rest-eq0.false c.if-n-at.false) _ (all_left_lem _ _ _ c.if-n-at.false)),
  c.rest_of-rest.ensures.1,
)
