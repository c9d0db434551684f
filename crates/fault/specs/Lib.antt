pub mod Checks
pub mod Layers
