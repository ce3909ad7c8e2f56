-- What the proofs of the arithmetic share.
mod Lifted
mod Results
mod ByCases
mod ShiftedOut
mod Sizes
mod Pairs
mod WideShifts
