use Rattle.listing.proofs.Joined.{known_joined}
use Rattle.listing.proofs.line.put_instruction.Goals as goal

pub returns : goal.returns
returns c = search known_joined
