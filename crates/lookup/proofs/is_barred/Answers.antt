use Rattle.pages.specs.Word.{bit_u, bit_s, bits_x}
use Rattle.lookup.proofs.Answers.{barred_u, barred_x, barred_s, barred_e}
use Rattle.lookup.proofs.is_barred.Goals as goal

pub returns-then-w-eq0 : goal.returns-then-w-eq0
unfolding bit_u
returns-then-w-eq0 c = search barred_u

pub returns-then-w-gt0 : goal.returns-then-w-gt0
unfolding bit_u bits_x
returns-then-w-gt0 c = search barred_x

pub returns-then-w-eq0-2 : goal.returns-then-w-eq0-2
unfolding bit_u bits_x bit_s
returns-then-w-eq0-2 c = search barred_s

pub returns : goal.returns
unfolding bit_u bits_x bit_s
returns c = search barred_e
