use Rattle.words.specs.Combine.{shifted_right}
use Rattle.arithmetic.proofs.ShiftedOut.{right_out}
use borrow.Author.Rules.{rules}
use Rattle.arithmetic.proofs.shift_right.Goals as goal

pub returns-then-places-lt32 : goal.returns-then-places-lt32
unfolding shifted_right
returns-then-places-lt32 c = search rules

pub returns-else-places-lt32 : goal.returns-else-places-lt32
unfolding shifted_right
returns-else-places-lt32 c = search (right_out, rules)
