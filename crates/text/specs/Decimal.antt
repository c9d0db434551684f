-- A number written in a field.
use Rattle.std.specs.Prelude.{◌≡◌, ℕ, ◌≤◌, List, decimal}

-- the text is n in decimal, without a leading zero, and n is from low to high
pub record Writes (low high : ℕ) (text : List ℕ) (n : ℕ) : Type 0 where
  pub is : text ≡ decimal n
  pub least : low ≤ n
  pub most : n ≤ high

-- the text writes some number from low to high
abbrev pub Number : ℕ → ℕ → List ℕ → Type 0
Number low high text = (n : ℕ) × Writes low high text n
