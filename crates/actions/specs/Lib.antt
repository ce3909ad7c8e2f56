-- What the executors' own types say in the definitions' terms.
pub mod Answered
pub mod Whole
