pub mod Decimal
pub mod Lines
-- For the fact that the type `Line` carries; no clause reads it.
pub mod FieldsOnce
pub mod FirstLine
pub mod Output
