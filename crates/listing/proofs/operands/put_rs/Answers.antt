use Rattle.listing.proofs.Joined.{rs_joined}
use Rattle.listing.proofs.operands.put_rs.Goals as goal

pub returns : goal.returns
returns c = search rs_joined
