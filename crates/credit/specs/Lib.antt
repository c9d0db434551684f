pub mod Places
pub mod Holdings
pub mod Rules
pub mod Meaning
pub mod Worked
-- The proof of the laws, which `src/recovery.rt` must see: it can name what stands here alone. No clause reads it, and
-- nothing in it needs to be believed.
pub mod ValuesLemmas
pub mod Moves
pub mod Soundness
