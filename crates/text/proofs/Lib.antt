pub mod Digits
pub mod Recursion
pub mod Cuts
pub mod Stamps
