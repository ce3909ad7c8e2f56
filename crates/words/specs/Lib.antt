-- Words of 32 bits, double words of 64, and the whole numbers that they stand for: the machine's arithmetic. Before them what every
-- crate uses: a choice, what an answer says, characters.
pub mod Pick
pub mod Said
pub mod Ascii
pub mod Whole
pub mod Codes
pub mod Combine
pub mod Wide
pub mod SignedShifts
