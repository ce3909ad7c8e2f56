use Rattle.words.proofs.SignCodes.{code_zero, code_above}
use Rattle.arithmetic.proofs.shifts.zero_or_above.Goals as goal

pub returns-then-v-eq0 : goal.returns-then-v-eq0
returns-then-v-eq0 c = search code_zero

pub returns-else-v-eq0 : goal.returns-else-v-eq0
returns-else-v-eq0 c = search code_above
