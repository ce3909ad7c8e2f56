pub mod Argument
pub mod Shown
pub mod Instance
pub mod Premises
pub mod Weak
pub mod RightRules
