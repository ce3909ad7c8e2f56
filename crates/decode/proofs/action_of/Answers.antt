-- An answer for each arm of the match, and one for the rest.
use mathlib.Core.Path.{refl}
use Rattle.code.specs.Table.{action_of, table}
use Rattle.decode.proofs.Decoding.{at_code, unknown_code}
use Rattle.decode.proofs.action_of.Goals as goal

pub returns-in-24 : goal.returns-in-24
unfolding action_of table
returns-in-24 c = at_code _ _ _ c.in-24.is refl

pub returns-in-88 : goal.returns-in-88
unfolding action_of table
returns-in-88 c = at_code _ _ _ c.in-88.is refl

pub returns-in-72 : goal.returns-in-72
unfolding action_of table
returns-in-72 c = at_code _ _ _ c.in-72.is refl

pub returns-in-18 : goal.returns-in-18
unfolding action_of table
returns-in-18 c = at_code _ _ _ c.in-18.is refl

pub returns-in-19 : goal.returns-in-19
unfolding action_of table
returns-in-19 c = at_code _ _ _ c.in-19.is refl

pub returns-in-16 : goal.returns-in-16
unfolding action_of table
returns-in-16 c = at_code _ _ _ c.in-16.is refl

pub returns-in-17 : goal.returns-in-17
unfolding action_of table
returns-in-17 c = at_code _ _ _ c.in-17.is refl

pub returns-in-152 : goal.returns-in-152
unfolding action_of table
returns-in-152 c = at_code _ _ _ c.in-152.is refl

pub returns-in-80 : goal.returns-in-80
unfolding action_of table
returns-in-80 c = at_code _ _ _ c.in-80.is refl

pub returns-in-64 : goal.returns-in-64
unfolding action_of table
returns-in-64 c = at_code _ _ _ c.in-64.is refl

pub returns-in-144 : goal.returns-in-144
unfolding action_of table
returns-in-144 c = at_code _ _ _ c.in-144.is refl

pub returns-in-65 : goal.returns-in-65
unfolding action_of table
returns-in-65 c = at_code _ _ _ c.in-65.is refl

pub returns-in-67 : goal.returns-in-67
unfolding action_of table
returns-in-67 c = at_code _ _ _ c.in-67.is refl

pub returns-in-66 : goal.returns-in-66
unfolding action_of table
returns-in-66 c = at_code _ _ _ c.in-66.is refl

pub returns-in-26 : goal.returns-in-26
unfolding action_of table
returns-in-26 c = at_code _ _ _ c.in-26.is refl

pub returns-in-90 : goal.returns-in-90
unfolding action_of table
returns-in-90 c = at_code _ _ _ c.in-90.is refl

pub returns-in-27 : goal.returns-in-27
unfolding action_of table
returns-in-27 c = at_code _ _ _ c.in-27.is refl

pub returns-in-91 : goal.returns-in-91
unfolding action_of table
returns-in-91 c = at_code _ _ _ c.in-91.is refl

pub returns-in-25 : goal.returns-in-25
unfolding action_of table
returns-in-25 c = at_code _ _ _ c.in-25.is refl

pub returns-in-89 : goal.returns-in-89
unfolding action_of table
returns-in-89 c = at_code _ _ _ c.in-89.is refl

pub returns-in-30 : goal.returns-in-30
unfolding action_of table
returns-in-30 c = at_code _ _ _ c.in-30.is refl

pub returns-in-94 : goal.returns-in-94
unfolding action_of table
returns-in-94 c = at_code _ _ _ c.in-94.is refl

pub returns-in-31 : goal.returns-in-31
unfolding action_of table
returns-in-31 c = at_code _ _ _ c.in-31.is refl

pub returns-in-95 : goal.returns-in-95
unfolding action_of table
returns-in-95 c = at_code _ _ _ c.in-95.is refl

pub returns-in-21 : goal.returns-in-21
unfolding action_of table
returns-in-21 c = at_code _ _ _ c.in-21.is refl

pub returns-in-85 : goal.returns-in-85
unfolding action_of table
returns-in-85 c = at_code _ _ _ c.in-85.is refl

pub returns-in-149 : goal.returns-in-149
unfolding action_of table
returns-in-149 c = at_code _ _ _ c.in-149.is refl

pub returns-in-213 : goal.returns-in-213
unfolding action_of table
returns-in-213 c = at_code _ _ _ c.in-213.is refl

pub returns-in-20 : goal.returns-in-20
unfolding action_of table
returns-in-20 c = at_code _ _ _ c.in-20.is refl

pub returns-in-84 : goal.returns-in-84
unfolding action_of table
returns-in-84 c = at_code _ _ _ c.in-84.is refl

pub returns-in-148 : goal.returns-in-148
unfolding action_of table
returns-in-148 c = at_code _ _ _ c.in-148.is refl

pub returns-in-22 : goal.returns-in-22
unfolding action_of table
returns-in-22 c = at_code _ _ _ c.in-22.is refl

pub returns-in-86 : goal.returns-in-86
unfolding action_of table
returns-in-86 c = at_code _ _ _ c.in-86.is refl

pub returns-in-150 : goal.returns-in-150
unfolding action_of table
returns-in-150 c = at_code _ _ _ c.in-150.is refl

pub returns-in-23 : goal.returns-in-23
unfolding action_of table
returns-in-23 c = at_code _ _ _ c.in-23.is refl

pub returns-in-87 : goal.returns-in-87
unfolding action_of table
returns-in-87 c = at_code _ _ _ c.in-87.is refl

pub returns-in-151 : goal.returns-in-151
unfolding action_of table
returns-in-151 c = at_code _ _ _ c.in-151.is refl

pub returns-in-145 : goal.returns-in-145
unfolding action_of table
returns-in-145 c = at_code _ _ _ c.in-145.is refl

pub returns-in-146 : goal.returns-in-146
unfolding action_of table
returns-in-146 c = at_code _ _ _ c.in-146.is refl

pub returns-in-210 : goal.returns-in-210
unfolding action_of table
returns-in-210 c = at_code _ _ _ c.in-210.is refl

pub returns-in-137 : goal.returns-in-137
unfolding action_of table
returns-in-137 c = at_code _ _ _ c.in-137.is refl

pub returns-in-136 : goal.returns-in-136
unfolding action_of table
returns-in-136 c = at_code _ _ _ c.in-136.is refl

pub returns-in-7 : goal.returns-in-7
unfolding action_of table
returns-in-7 c = at_code _ _ _ c.in-7.is refl

pub returns-in-71 : goal.returns-in-71
unfolding action_of table
returns-in-71 c = at_code _ _ _ c.in-71.is refl

pub returns-in-5 : goal.returns-in-5
unfolding action_of table
returns-in-5 c = at_code _ _ _ c.in-5.is refl

pub returns-in-69 : goal.returns-in-69
unfolding action_of table
returns-in-69 c = at_code _ _ _ c.in-69.is refl

pub returns-in-6 : goal.returns-in-6
unfolding action_of table
returns-in-6 c = at_code _ _ _ c.in-6.is refl

pub returns-in-70 : goal.returns-in-70
unfolding action_of table
returns-in-70 c = at_code _ _ _ c.in-70.is refl

pub returns-in-134 : goal.returns-in-134
unfolding action_of table
returns-in-134 c = at_code _ _ _ c.in-134.is refl

pub returns-in-135 : goal.returns-in-135
unfolding action_of table
returns-in-135 c = at_code _ _ _ c.in-135.is refl

pub returns-in-28 : goal.returns-in-28
unfolding action_of table
returns-in-28 c = at_code _ _ _ c.in-28.is refl

pub returns-in-92 : goal.returns-in-92
unfolding action_of table
returns-in-92 c = at_code _ _ _ c.in-92.is refl

pub returns-in-76 : goal.returns-in-76
unfolding action_of table
returns-in-76 c = at_code _ _ _ c.in-76.is refl

pub returns-in-29 : goal.returns-in-29
unfolding action_of table
returns-in-29 c = at_code _ _ _ c.in-29.is refl

pub returns-in-93 : goal.returns-in-93
unfolding action_of table
returns-in-93 c = at_code _ _ _ c.in-93.is refl

pub returns-in-74 : goal.returns-in-74
unfolding action_of table
returns-in-74 c = at_code _ _ _ c.in-74.is refl

pub returns-in-75 : goal.returns-in-75
unfolding action_of table
returns-in-75 c = at_code _ _ _ c.in-75.is refl

pub returns-in-73 : goal.returns-in-73
unfolding action_of table
returns-in-73 c = at_code _ _ _ c.in-73.is refl

pub returns-in-139 : goal.returns-in-139
unfolding action_of table
returns-in-139 c = at_code _ _ _ c.in-139.is refl

pub returns-in-138 : goal.returns-in-138
unfolding action_of table
returns-in-138 c = at_code _ _ _ c.in-138.is refl

pub returns-in-143 : goal.returns-in-143
unfolding action_of table
returns-in-143 c = at_code _ _ _ c.in-143.is refl

pub returns-in-142 : goal.returns-in-142
unfolding action_of table
returns-in-142 c = at_code _ _ _ c.in-142.is refl

pub returns-in_default : goal.returns-in_default
unfolding action_of table
returns-in_default c = unknown_code _ _ c.in_default.in_default-own.rest
