use Rattle.actions.proofs.Executed.{no_storage, answered}
use Rattle.rs_ss.proofs.rs.execute.Goals as goal

pub returns-in-LoadMultiple : goal.returns-in-LoadMultiple
returns-in-LoadMultiple c = rw c.in-LoadMultiple.is c.load_multiple.ensures

pub returns-in-StoreMultiple : goal.returns-in-StoreMultiple
returns-in-StoreMultiple c = rw c.in-StoreMultiple.is c.store_multiple.ensures

pub returns-in-ShiftLeft : goal.returns-in-ShiftLeft
returns-in-ShiftLeft c = rw c.in-ShiftLeft.is (no_storage _ _ _ _ _ _ c.shift_logical.ensures)

pub returns-in-ShiftRight : goal.returns-in-ShiftRight
returns-in-ShiftRight c = rw c.in-ShiftRight.is (no_storage _ _ _ _ _ _ c.shift_logical-in-ShiftRight.ensures)

pub returns-in-BranchHigh : goal.returns-in-BranchHigh
returns-in-BranchHigh c = rw c.in-BranchHigh.is (no_storage _ _ _ _ _ _ c.branch_index.ensures)

pub returns-in-BranchLowEqual : goal.returns-in-BranchLowEqual
returns-in-BranchLowEqual c = rw c.in-BranchLowEqual.is (no_storage _ _ _ _ _ _ c.branch_index-in-BranchLowEqual.ensures)

pub returns-in-ShiftSigned : goal.returns-in-ShiftSigned
returns-in-ShiftSigned c = rw c.in-ShiftSigned.is (no_storage _ _ _ _ _ _ c.shift_signed.ensures)

pub returns-in-ShiftDouble : goal.returns-in-ShiftDouble
returns-in-ShiftDouble c = rw c.in-ShiftDouble.is (answered _ _ _ _ _ _ c.shift_double.ensures)
