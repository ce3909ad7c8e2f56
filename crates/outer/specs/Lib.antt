-- The library's functions, as a C caller sees them: numbers and lists, and no record.
pub mod Crossing
