-- Working definitions of decoding.
pub mod Names
