-- The answer's text (document 01, "The bench sheet").
pub mod Digits
pub mod Lines
pub mod Answer
pub mod Writing
