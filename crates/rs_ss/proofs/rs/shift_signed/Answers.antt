use Rattle.rs_ss.proofs.SignedShifts.{shift_word}
use Rattle.rs_ss.proofs.rs.shift_signed.Goals as goal

pub returns : goal.returns
returns c = shift_word _ _ _ _ _ _ _ _ _ c.operand_address-amount.ensures c.ahead_of-next.ensures c.reg.ensures c.word-result.ensures c.put_reg.ensures
