use Rattle.listing.proofs.Joined.{rr_joined}
use Rattle.listing.proofs.operands.put_rr.Goals as goal

pub returns : goal.returns
returns c = search rr_joined
