use Rattle.printing.proofs.Joined.{last_joined}
use Rattle.printing.proofs.writing.Writer.last_decimal.Goals as goal

pub returns : goal.returns
returns c = search last_joined
