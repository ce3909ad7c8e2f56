use Rattle.words.specs.Codes.{mask_code}
use Rattle.words.proofs.Choice.{tests}
use Rattle.arithmetic.proofs.mask_code.Goals as goal

pub returns-then-chosen-eq0 : goal.returns-then-chosen-eq0
unfolding mask_code
returns-then-chosen-eq0 c = search tests

pub returns-then-chosen-mask : goal.returns-then-chosen-mask
unfolding mask_code
returns-then-chosen-mask c = search tests

pub returns-else-chosen-mask : goal.returns-else-chosen-mask
unfolding mask_code
returns-else-chosen-mask c = search tests
