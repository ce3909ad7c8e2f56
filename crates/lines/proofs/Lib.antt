pub mod Steps
pub mod AllBytes
pub mod Parted
pub mod GoesOn
pub mod Fronts
pub mod Everything
pub mod Cases
pub mod Proper
pub mod ByKind
pub mod TableRows
pub mod Longest
pub mod Numerals
pub mod CutTexts
pub mod ReadBack
pub mod Tells
pub mod TellsAll
mod Only
