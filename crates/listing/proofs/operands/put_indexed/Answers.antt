use Rattle.listing.proofs.Joined.{indexed_joined}
use Rattle.listing.proofs.operands.put_indexed.Goals as goal

pub returns : goal.returns
returns c = search indexed_joined
