use Rattle.listing.proofs.Joined.{based_joined}
use Rattle.listing.proofs.operands.put_based.Goals as goal

pub returns : goal.returns
returns c = search based_joined
