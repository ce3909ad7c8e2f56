use Rattle.printing.proofs.Joined.{page_joined}
use Rattle.printing.proofs.writing.Writer.page_line.Goals as goal

pub returns : goal.returns
returns c = search page_joined
