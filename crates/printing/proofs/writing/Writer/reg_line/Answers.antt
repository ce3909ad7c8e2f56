use Rattle.printing.proofs.Joined.{reg_joined}
use Rattle.printing.proofs.writing.Writer.reg_line.Goals as goal

pub returns : goal.returns
returns c = search reg_joined
