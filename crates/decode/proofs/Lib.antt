mod Decoding
pub mod Grid
