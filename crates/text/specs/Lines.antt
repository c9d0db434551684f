-- Lines of fields.
use Rattle.std.specs.Prelude.{◌≡◌, ℕ, ◌<◌, ◌≤◌, ◌⊎◌, List, [], ◌∷◌, ◌++◌, length, ◌≢◌}
use Rattle.std.specs.List.{AllByRecursion}

-- a byte that a field may hold
abbrev pub Mark : ℕ → Type 0
Mark b = (33 ≤ b) × (b ≤ 126)

-- a field: one or more such bytes
abbrev pub Field : List ℕ → Type 0
Field f = (0 < length f) × AllByRecursion Mark f

-- fields, parted by one space
abbrev pub spaced : List (List ℕ) → List ℕ
spaced [] = []
spaced (f ∷ []) = f
spaced (f ∷ g ∷ fs) = f ++ 32 ∷ spaced (g ∷ fs)

-- the line, without its line feed, is made of the fields fs
pub record Fields (line : List ℕ) (fs : List (List ℕ)) : Type 0 where
  pub is : line ≡ spaced fs
  pub each : AllByRecursion Field fs
  pub some : 0 < length fs

-- the line has n fields: fs
abbrev pub Cut : ℕ → List ℕ → List (List ℕ) → Type 0
Cut n line fs = Fields line fs × (length fs ≡ n)

-- the line has n fields
abbrev pub HasFields : List ℕ → ℕ → Type 0
HasFields line n = (fs : List (List ℕ)) × Cut n line fs

-- front is the longest front of a line that a field may hold; one byte parts it from rest, unless it is all
abbrev pub Parted : List ℕ → List ℕ → List ℕ → Type 0
Parted line front rest =
    AllByRecursion Mark front
    × (((line ≡ front) × (rest ≡ [])) ⊎ ((b : ℕ) × (Mark b → ⊥) × (line ≡ front ++ b ∷ rest)))

-- no line feed
abbrev pub Unbroken : List ℕ → Type 0
Unbroken t = AllByRecursion (λ b. b ≢ 10) t
