pub mod Onward
pub mod Answered
pub mod Loaded
pub mod Branching
pub mod Moving
pub mod RowKinds
pub mod Rows
