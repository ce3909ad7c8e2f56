use Rattle.words.specs.Codes.{zero_code}
use Rattle.words.proofs.Choice.{tests}
use Rattle.arithmetic.proofs.zero_code.Goals as goal

pub returns-then-v-eq0 : goal.returns-then-v-eq0
unfolding zero_code
returns-then-v-eq0 c = search tests

pub returns-else-v-eq0 : goal.returns-else-v-eq0
unfolding zero_code
returns-else-v-eq0 c = search tests
