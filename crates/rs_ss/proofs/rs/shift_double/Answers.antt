use Rattle.rs_ss.proofs.SignedShifts.{shift_odd, shift_pair}
use Rattle.rs_ss.proofs.rs.shift_double.Goals as goal

pub returns-then-f-ne0 : goal.returns-then-f-ne0
returns-then-f-ne0 c = search shift_odd

pub returns : goal.returns
returns c = shift_pair _ _ _ _ _ _ _ _ _ c.operand_address-amount.ensures c.ahead_of-next.ensures c.if-f-ne0.false c.pair_of.ensures c.double-result.ensures c.put_pair.ensures
