-- Working definitions of listing.
pub mod Adding
