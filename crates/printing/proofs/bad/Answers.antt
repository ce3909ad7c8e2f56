use Rattle.printing.proofs.Lengths.{bad_long}
use Rattle.printing.proofs.Filled.{filled}
use Rattle.printing.proofs.bad.Goals as goal

pub returns : goal.returns
returns c = search (filled, bad_long)
