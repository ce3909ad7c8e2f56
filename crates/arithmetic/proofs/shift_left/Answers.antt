use Rattle.words.specs.Combine.{shifted_left}
use Rattle.arithmetic.proofs.ShiftedOut.{left_out}
use borrow.Author.Rules.{rules}
use Rattle.arithmetic.proofs.shift_left.Goals as goal

pub returns-then-amount-lt32 : goal.returns-then-amount-lt32
unfolding shifted_left
returns-then-amount-lt32 c = search rules

pub returns-else-amount-lt32 : goal.returns-else-amount-lt32
unfolding shifted_left
returns-else-amount-lt32 c = search left_out
