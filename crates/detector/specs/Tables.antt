-- Lemmas on tables of records for the proofs of the law. No clause reads them, and nothing in them needs to be believed.
use Rattle.std.specs.Prelude.{◌≡◌, ℕ, ◌≤◌, List, replicate, slice_index_or, sum_by}
use Rattle.std.proofs.Common.{inl, inr, arith}
use Rattle.std.proofs.lemmas.List.{get_or-replicate, get_or_past, length-replicate}
use Rattle.std.proofs.lemmas.List.Elements.{All-from_get_or}
use Rattle.std.proofs.lemmas.List.Sums.{sum_by-le}
use Rattle.std.proofs.lemmas.Bool.{cases_lt}

-- One record repeated: that record at each place, and past the last.
pub replicated : {A : Type 0} (n k : ℕ) (a : A) → slice_index_or (replicate n a) k a ≡ a
replicated n k a = elim (cases_lt k n) [
  | inl lt ↦ get_or-replicate n k a a lt
  | inr past ↦ get_or_past (replicate n a) k a (omega (arith, length-replicate n a))
]

-- A sum to which no record adds anything is 0.
pub sum_of_nothing : {A : Type 0} (f : A → ℕ) (rs : List A) (d : A) → ((k : ℕ) → f (slice_index_or rs k d) ≡ 0) → sum_by f rs ≡ 0
sum_of_nothing f rs d h = omega (arith, sum_by-le f 0 rs (All-from_get_or (λ x. f x ≤ 0) rs d (λ k lt. omega (arith, h k))))
