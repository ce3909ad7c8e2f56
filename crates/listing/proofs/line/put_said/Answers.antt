use Rattle.listing.proofs.Joined.{said_joined}
use Rattle.listing.proofs.line.put_said.Goals as goal

pub returns-in-Some : goal.returns-in-Some
returns-in-Some c = search said_joined

pub returns-in-None : goal.returns-in-None
returns-in-None c = search said_joined
