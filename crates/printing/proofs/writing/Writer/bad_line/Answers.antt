use Rattle.printing.proofs.Joined.{bad_joined}
use Rattle.printing.proofs.writing.Writer.bad_line.Goals as goal

pub returns : goal.returns
returns c = search bad_joined
