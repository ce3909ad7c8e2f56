-- What the proofs of listing share.
pub mod Joined
pub mod Stretches
pub mod Loops
pub mod Reaches
pub mod Added
pub mod Turns
