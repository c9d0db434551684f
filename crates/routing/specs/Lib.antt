pub mod States
pub mod Protocol
pub mod Routes
pub mod Mistakes
