-- The instruction code: the table of operations, and the formats with their fields.
pub mod Table
pub mod Formats
