use Rattle.listing.proofs.Joined.{ss_joined}
use Rattle.listing.proofs.operands.put_ss.Goals as goal

pub returns : goal.returns
returns c = search ss_joined
