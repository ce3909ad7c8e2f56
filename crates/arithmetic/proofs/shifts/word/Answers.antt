use Rattle.words.specs.Whole.{word_top}
use Rattle.arithmetic.proofs.WideShifts.{value_small}
use borrow.Author.Rules.{rules}
use Rattle.arithmetic.proofs.shifts.word.Goals as goal

pub overflow_cast-result : goal.overflow_cast-result
overflow_cast-result c = search (value_small word_top, rules)
