-- The bench sheet: from a sheet's bytes to the answer's bytes.
pub mod Sheet
