use Rattle.listing.proofs.Joined.{quoted_joined}
use Rattle.listing.proofs.operands.put_quoted.Goals as goal

pub returns : goal.returns
returns c = search quoted_joined
