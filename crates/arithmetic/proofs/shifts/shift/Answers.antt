use Rattle.arithmetic.proofs.shifts.shift.Goals as goal

pub returns-in-Left : goal.returns-in-Left
returns-in-Left c = cc

pub returns-in-Right : goal.returns-in-Right
returns-in-Right c = cc
