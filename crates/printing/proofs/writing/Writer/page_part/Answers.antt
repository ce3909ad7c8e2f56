use Rattle.printing.proofs.Joined.{page_none, page_some}
use Rattle.printing.proofs.writing.Writer.page_part.Goals as goal

pub returns-then-before-after : goal.returns-then-before-after
returns-then-before-after c = search page_some

pub returns-else-before-after : goal.returns-else-before-after
returns-else-before-after c = search page_none
