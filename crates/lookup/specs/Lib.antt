-- Working definitions: the look-up's tests as the code asks them. Nobody has to believe them: proofs/Answers ties them to the look-up.
pub mod Barred
pub mod Marked
