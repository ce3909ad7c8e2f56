use Rattle.listing.proofs.Joined.{line_joined}
use Rattle.listing.proofs.line.put_line.Goals as goal

pub returns : goal.returns
returns c = search line_joined
