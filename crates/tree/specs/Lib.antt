pub mod Rules
pub mod Steps
pub mod Balance
pub mod Worked
-- The proof of the laws, which `src/calls.rt` must see: it can name what stands here alone. No clause reads it, and
-- nothing in it needs to be believed.
pub mod Tables
pub mod Family
pub mod Endings
pub mod Keeps
pub mod Rightness
