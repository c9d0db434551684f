-- The rules of a mesh: what its links may be.
use Rattle.std.specs.Prelude.{◌≡◌, ℕ, ◌+◌, ◌*◌, ◌<◌, ◌≤◌, Bool, true, false, List, length, slice_index_or}
use Rattle.std.specs.List.{HoldsAt}
use Rattle.mesh.specs.declared.link.Link.{Link}

-- both ends are nodes of a mesh of that many
abbrev pub EndsIn : ℕ → Link → Type 0
EndsIn nodes l = (l.from < nodes) × (l.to < nodes)

abbrev pub CostIn : Link → Type 0
CostIn l = l.cost ≤ 65535

abbrev pub WidthIn : Link → Type 0
WidthIn l = (1 ≤ l.width) × (l.width ≤ 65535)

-- the numbers of a link are what a mesh of that many nodes takes
abbrev pub InRange : ℕ → Link → Type 0
InRange nodes l = EndsIn nodes l × CostIn l × WidthIn l

-- the link leads from one node to another
abbrev pub EndsDiffer : Link → Type 0
EndsDiffer l = l.from ≡ l.to → ⊥

-- P holds of every link
abbrev pub EveryLink : (Link → Type 0) → List Link → Type 0
EveryLink P ls = (k : ℕ) (d : Link) → k < length ls → P (slice_index_or ls k d)

-- both links lead from the same node to the same node
abbrev pub SamePair : Link → Link → Type 0
SamePair l m = (l.from ≡ m.from) × (l.to ≡ m.to)

-- no ordered pair of ends occurs twice
abbrev pub PairsOnce : List Link → Type 0
PairsOnce ls = (i j : ℕ) (d : Link) → ((i < j) × (j < length ls) × SamePair (slice_index_or ls i d) (slice_index_or ls j d) → ⊥)

-- some link leads from a to b
abbrev pub Joins : List Link → ℕ → ℕ → Type 0
Joins ls a b = (i : ℕ) × (i < length ls) × HoldsAt (λ l. (l.from ≡ a) × (l.to ≡ b)) ls i

-- An index of the pairs of ends: place a * 64 + b is true where some link leads from a to b.
-- A place that is false says that no link does: one that does would contradict it. A place that is true says that
-- one does, as a contradiction with none doing so.
abbrev pub FreeKnown : List Bool → List Link → Type 0
FreeKnown taken ls = (a b : ℕ) → ((a < 64) × (b < 64) × (slice_index_or taken (a * 64 + b) false ≡ false) × Joins ls a b → ⊥)

abbrev pub UsedKnown : List Bool → List Link → Type 0
UsedKnown taken ls = (a b : ℕ) → ((a < 64) × (b < 64) × (slice_index_or taken (a * 64 + b) false ≡ true) × (Joins ls a b → ⊥) → ⊥)
