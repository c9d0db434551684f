pub mod Handed
pub mod Finding
