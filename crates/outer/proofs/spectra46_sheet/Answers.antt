use Rattle.outer.proofs.Crossings.{room_away, room_filled, sheet_meets}
use Rattle.std.proofs.Common.{rules}
use Rattle.outer.proofs.spectra46_sheet.Goals as goal

pub returns-then-room-ne8192-clause-whole : goal.returns-then-room-ne8192-clause-whole
returns-then-room-ne8192-clause-whole c = search room_away

pub returns-then-room-ne8192-clause-demands : goal.returns-then-room-ne8192-clause-demands
returns-then-room-ne8192-clause-demands c = sheet_meets _ _ _ _ (search room_away)

pub returns-clause-whole : goal.returns-clause-whole
returns-clause-whole c = search (room_filled, rules)

pub returns-clause-demands : goal.returns-clause-demands
returns-clause-demands c = sheet_meets _ _ _ _ (search (room_filled, rules))
