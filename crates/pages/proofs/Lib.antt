pub mod LookLaws
pub mod ReachLaws
pub mod StoreLaws
pub mod Marks
pub mod SaysOnce
