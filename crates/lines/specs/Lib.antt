-- A listing of code bytes (document 02, E1): a line's text, the lines of some code, and those that fit.
pub mod Line
pub mod Listing
