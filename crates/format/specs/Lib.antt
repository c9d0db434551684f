pub mod Columns
-- For the fact that the type `Columns` carries; no clause reads it.
pub mod OrdersOnce
pub mod Tables
pub mod Content
pub mod Verdict
pub mod Filling
pub mod Stages
