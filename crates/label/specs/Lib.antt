pub mod Kinds
pub mod Paths
pub mod Texts
pub mod Costs
pub mod Widths
pub mod Laws
