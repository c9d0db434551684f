pub mod Rules
pub mod Checks
