use Rattle.listing.proofs.Joined.{raw_joined}
use Rattle.listing.proofs.line.put_raw.Goals as goal

pub returns : goal.returns
returns c = search raw_joined
