use Rattle.listing.proofs.Joined.{si_joined}
use Rattle.listing.proofs.operands.put_si.Goals as goal

pub returns : goal.returns
returns c = search si_joined
