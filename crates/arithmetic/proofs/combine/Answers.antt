use Rattle.words.specs.Combine.{combine_of}
use Rattle.arithmetic.proofs.ByCases.{combine_told, result_told, value_told}
use Rattle.arithmetic.proofs.combine.Goals as goal

pub returns-in-Load : goal.returns-in-Load
unfolding combine_of
returns-in-Load c = search combine_told

pub returns-in-Test : goal.returns-in-Test
unfolding combine_of
returns-in-Test c = search combine_told

pub returns-in-Complement : goal.returns-in-Complement
unfolding combine_of
returns-in-Complement c = search combine_told

pub returns-in-Positive : goal.returns-in-Positive
unfolding combine_of
returns-in-Positive c = search combine_told

pub returns-in-Negative : goal.returns-in-Negative
unfolding combine_of
returns-in-Negative c = search combine_told

pub returns-in-Add : goal.returns-in-Add
unfolding combine_of
returns-in-Add c = search combine_told

pub returns-in-Subtract : goal.returns-in-Subtract
unfolding combine_of
returns-in-Subtract c = search combine_told

pub returns-in-Compare : goal.returns-in-Compare
unfolding combine_of
returns-in-Compare c = search (combine_told, result_told)

pub returns-in-AddLogical : goal.returns-in-AddLogical
unfolding combine_of
returns-in-AddLogical c = search combine_told

pub returns-in-SubtractLogical : goal.returns-in-SubtractLogical
unfolding combine_of
returns-in-SubtractLogical c = search combine_told

pub returns-in-CompareLogical : goal.returns-in-CompareLogical
unfolding combine_of
returns-in-CompareLogical c = search (combine_told, result_told)

pub returns-in-Bits : goal.returns-in-Bits
unfolding combine_of
returns-in-Bits c = search combine_told

pub returns-in-LowProduct : goal.returns-in-LowProduct
unfolding combine_of
returns-in-LowProduct c = search (combine_told, value_told)
