use Rattle.printing.proofs.Joined.{reg_none, reg_some}
use Rattle.printing.proofs.writing.Writer.reg_part.Goals as goal

pub returns-then-v-ne0 : goal.returns-then-v-ne0
returns-then-v-ne0 c = search reg_some

pub returns-else-v-ne0 : goal.returns-else-v-ne0
returns-else-v-ne0 c = search reg_none
