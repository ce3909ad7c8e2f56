use Rattle.arithmetic.proofs.Lifted.{spread_low, spread_high}
use borrow.Author.Rules.{rules}
use Rattle.arithmetic.proofs.widen.Goals as goal

pub returns-then-h-lt32768 : goal.returns-then-h-lt32768
returns-then-h-lt32768 c = search (spread_low, rules)

pub returns-else-h-lt32768 : goal.returns-else-h-lt32768
returns-else-h-lt32768 c = search (spread_high, rules)
