pub mod Holds
pub mod Shown
