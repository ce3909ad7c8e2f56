use borrow.Author.Rules.{rules}
use Rattle.listing.proofs.Stretches.{empty_is_none, unknown_is_none, whole_is_one, other_is_none}
use borrow.Author.Rules.{rules}
use Rattle.listing.proofs.line.instruction_in.Goals as goal

pub returns-then-is_empty : goal.returns-then-is_empty
returns-then-is_empty c = search (empty_is_none, rules)

pub returns-in_err-action : goal.returns-in_err-action
returns-in_err-action c = search (unknown_is_none, rules)

pub returns-then-bytes-length_of : goal.returns-then-bytes-length_of
returns-then-bytes-length_of c = whole_is_one _ _ c.action_of.ensures _ _ c.in_ok-action.was c.length_of.ensures c.if-bytes-length_of.true

pub returns-else-bytes-length_of : goal.returns-else-bytes-length_of
returns-else-bytes-length_of c = other_is_none _ _ c.action_of.ensures _ _ c.in_ok-action.was c.length_of.ensures c.if-bytes-length_of.false
