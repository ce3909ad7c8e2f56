use Rattle.actions.proofs.OnPairs.{rr_odd, rr_even}
use Rattle.actions.proofs.rr.pair.Goals as goal

pub returns-then-f-ne0 : goal.returns-then-f-ne0
returns-then-f-ne0 c = search rr_odd

pub returns : goal.returns
returns c = search rr_even
