-- What the proofs of printing share.
pub mod WrittenText
pub mod WritingLoops
pub mod Places
pub mod Widths
pub mod Joined
pub mod Lengths
pub mod Filled
pub mod Cases
mod Only
