-- Laws that the functions' proofs cite.
mod Cuts
mod Numbers
mod SameText
mod Stores
mod Ranges
mod Order
mod ReadLines
mod Cases
mod Only
