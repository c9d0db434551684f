pub mod Pigeons
pub mod Grown
