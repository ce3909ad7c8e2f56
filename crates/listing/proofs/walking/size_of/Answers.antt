use Rattle.listing.proofs.Reaches.{size_raw, size_whole, size_cut}
use Rattle.listing.proofs.walking.size_of.Goals as goal

pub returns-in_default : goal.returns-in_default
returns-in_default c = search size_raw

pub returns-then-size-left : goal.returns-then-size-left
returns-then-size-left c = search size_whole

pub returns-else-size-left : goal.returns-else-size-left
returns-else-size-left c = search size_cut
