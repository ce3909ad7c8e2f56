use Rattle.printing.proofs.Joined.{stop_joined}
use Rattle.printing.proofs.writing.Writer.stop_line.Goals as goal

pub returns : goal.returns
returns c = search stop_joined
