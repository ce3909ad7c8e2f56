-- Working definitions of the quick way: nobody has to believe them. proofs/Rows ties them to the definition's step.
pub mod Places
pub mod Turns
pub mod Work
