use Rattle.printing.proofs.WrittenText.{after}
use Rattle.printing.proofs.writing.Writer.named.Goals as goal

pub returns : goal.returns
returns c = search after
