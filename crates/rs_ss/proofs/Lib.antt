mod RegisterLoops
pub mod Multiples
mod SignedShifts
pub mod MultiplesReached
pub mod BothReached
pub mod Ways
