pub mod Piles
pub mod Places
