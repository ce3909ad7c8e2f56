-- The bench sheet: from a sheet's bytes to the machine's setting, or to the number of its first bad line.
pub mod Digits
pub mod Cut
pub mod Line
pub mod Order
pub mod Setting
pub mod Sheet
pub mod Answered
pub mod Within
