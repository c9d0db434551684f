pub mod Values
pub mod Carry
pub mod Parts
pub mod Cases
