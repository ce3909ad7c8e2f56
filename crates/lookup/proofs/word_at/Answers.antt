use Rattle.pages.specs.Word.{word_of}
use Rattle.std.proofs.lemmas.Grind.{common_steps}
use Rattle.lookup.proofs.word_at.Goals as goal
use native.Mathlib.Omega.{arith}

pub returns : goal.returns
unfolding word_of
returns c = grind (arith, common_steps)
