pub mod Faults
pub mod Meaning
pub mod Calls
pub mod Laws
-- For the proofs of the law; no clause reads it.
pub mod Tables
