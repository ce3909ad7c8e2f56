use Rattle.printing.proofs.Joined.{number_joined}
use Rattle.printing.proofs.writing.Writer.put_number.Goals as goal

pub returns : goal.returns
returns c = search number_joined
