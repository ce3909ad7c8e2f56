pub mod Scalars
pub mod Stops
pub mod Looks
pub mod Executed
pub mod OnPairs
