-- How many lines of links and steps an accepted file has.
use Rattle.std.specs.Prelude.{◌≡◌, ℕ, ◌+◌, ◌%◌, ◌^◌, ◌⊎◌, List, length}
use Rattle.format.specs.Content.{Content}
use Rattle.format.specs.Verdict.{Accepts}

-- n is that number for the content that the file writes, or 0
abbrev pub Counts : List ℕ → ℕ → Type 0
Counts bytes n = (n ≡ 0) ⊎ ((c : Content) × Accepts bytes c × (n ≡ (length c.links + length c.steps) % 2 ^ 64))
