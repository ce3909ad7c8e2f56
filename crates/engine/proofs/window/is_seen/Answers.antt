use native.Mathlib.Omega.{arith}
use Rattle.pages.specs.Word.{bit_g, word_of}
use Rattle.std.proofs.lemmas.Grind.{common_steps}
use Rattle.engine.proofs.window.is_seen.Goals as goal

pub returns : goal.returns
unfolding bit_g word_of
returns c = grind (arith, common_steps)
