-- Bytes written into a caller's output.
use Rattle.text.specs.declared.output.Output.{Output}
use Rattle.std.specs.Prelude.{◌≡◌, ℕ, ◌+◌, ◌^◌, ◌<◌, List, [], ◌∷◌, length, slice_set}

-- old with the bytes of s from place at on, as far as old reaches; all other places are as they were
abbrev pub stamped : List ℕ → ℕ → List ℕ → List ℕ
stamped old at [] = old
stamped old at (b ∷ s) = stamped (slice_set old at b) (at + 1) s

-- s was written from place at on, and end is the place after it (where that is a number of 64 bits)
pub record Puts (old : List ℕ) (at : ℕ) (s new : List ℕ) (end : ℕ) : Type 0 where
  pub place : at + length s < 2 ^ 64 → end ≡ at + length s
  pub after : at + length s < 2 ^ 64 → new ≡ stamped old at s

-- The text s was written at the place of the output, which is now after it. The output refers to what it referred to, so a
-- caller learns what its own bytes are in the end.
pub record Appends (before : Output) (s : List ℕ) (after : Output) : Type 0 where
  pub puts : Puts before.bytes.now before.end s after.bytes.now after.end
  pub same : after.bytes.ghost_name ≡ before.bytes.ghost_name
