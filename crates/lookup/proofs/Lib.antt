pub mod Answers
pub mod HasMarks
