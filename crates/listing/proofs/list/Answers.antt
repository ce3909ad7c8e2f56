use Rattle.listing.proofs.Turns.{in_range, out_of_range}
use Rattle.listing.proofs.list.Goals as goal

pub returns-then-start : goal.returns-then-start
returns-then-start c = search out_of_range

pub returns : goal.returns
returns c = search in_range
