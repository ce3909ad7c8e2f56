use Rattle.actions.proofs.OnPairs.{work_stops, work_ends}
use Rattle.actions.proofs.pairs.work.Goals as goal

pub returns-in_default : goal.returns-in_default
returns-in_default c = search work_stops

pub returns : goal.returns
returns c = search work_ends
