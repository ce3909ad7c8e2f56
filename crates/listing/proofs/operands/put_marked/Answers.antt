use Rattle.listing.proofs.Joined.{marked_joined}
use Rattle.listing.proofs.operands.put_marked.Goals as goal

pub returns : goal.returns
returns c = search marked_joined
