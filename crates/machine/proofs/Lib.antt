pub mod MarksLast
pub mod Operands
pub mod Fetches
mod Cases
