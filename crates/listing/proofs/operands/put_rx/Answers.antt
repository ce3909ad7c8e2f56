use Rattle.listing.proofs.Joined.{rx_joined}
use Rattle.listing.proofs.operands.put_rx.Goals as goal

pub returns : goal.returns
returns c = search rx_joined
