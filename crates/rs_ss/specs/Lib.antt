-- Working definitions for Load Multiple and Store Multiple, for logical shifts, and for the ends of moves and compares.
pub mod Multiple
pub mod Logical
pub mod Ended
