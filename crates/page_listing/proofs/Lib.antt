-- What the proofs of page_listing share, and the laws of a page's bytes.
pub mod Answers
pub mod EachByte
pub mod OpenPage
pub mod WholePage
mod Only
mod AnyNumber
