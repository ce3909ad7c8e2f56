use Rattle.printing.specs.Writing.{wrote}
use Rattle.printing.proofs.Joined.{start_joined}
use Rattle.printing.proofs.writing.Writer.start_line.Goals as goal

pub returns : goal.returns
unfolding wrote
returns c = search start_joined
