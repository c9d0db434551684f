pub mod Texts
pub mod Report
