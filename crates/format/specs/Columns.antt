-- Tables whose columns stand in an order of the writer's own.
use Rattle.std.specs.Prelude.{◌≡◌, ℕ, ◌<◌, List, [], ◌∷◌, ◌++◌, map, length, ◌≢◌, slice_index, slice_index_or}
use Rattle.std.specs.Borrow.{Bor}
use Rattle.std.specs.List.{flat_map, AllByRecursion}
use Rattle.text.specs.Lines.{spaced, Fields}

-- an order of n columns: each of them once
pub record Order (n : ℕ) (o : List ℕ) : Type 0 where
  pub long : length o ≡ n
  pub below : AllByRecursion (λ k. k < n) o
  pub once : (i j : ℕ) → i < j → j < length o → slice_index o i ≢ slice_index o j

-- what stands in the columns, in this order
abbrev pub arranged : List ℕ → List (List ℕ) → List (List ℕ)
arranged o xs = map (λ k. slice_index_or xs k []) o

-- a line of these columns in this order, with its line feed
abbrev pub row : List ℕ → List (List ℕ) → List ℕ
row o xs = spaced (arranged o xs) ++ 10 ∷ []

-- a table: the line of its names, and then the lines of its rows
abbrev pub table : List ℕ → List (List ℕ) → List (List (List ℕ)) → List ℕ
table o names rows = row o names ++ flat_map (row o) rows

-- field i of the line, from 0, holds what column k takes (a line has one cut into fields, so `some cut` is the cut)
abbrev pub FieldTakes : (ℕ → List ℕ → Type 0) → List ℕ → ℕ → ℕ → Type 0
FieldTakes takes line i k = (fs : List (List ℕ)) × Fields line fs × takes k (slice_index_or fs i [])

-- what some references point to
abbrev pub texts : List (Bor (List ℕ)) → List (List ℕ)
texts xs = map (λ x. x.now) xs
