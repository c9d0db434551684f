-- Sets of places and their value: a place is worth twice the next, and the last is worth 1.
use Rattle.std.specs.Prelude.{◌≡◌, ℕ, zero, suc, ◌+◌, ◌-◌, ◌^◌, ◌<◌, ◌≤◌, Bool, true, false, if◌then◌else◌, List, [], ◌∷◌, length, sum_by, slice_index_or, slice_set}
use Rattle.std.specs.List.{range_with_len}

-- what a place adds to the value, with n places after it
abbrev pub place_value : Bool → ℕ → ℕ
place_value taken n = if taken then 2 ^ n else 0

-- the value of a set of places, which is a list that says of each place whether it is taken
abbrev pub value : List Bool → ℕ
value [] = 0
value (p ∷ ps) = place_value p (length ps) + value ps

-- credit one; not opened in proofs, since the number is too long for the prover's arithmetic
unfoldable pub whole : ℕ
whole = 2 ^ 1000

-- the credit of exponent e, which is what place e of 1,001 places is worth
abbrev pub credit_of : ℕ → ℕ
credit_of e = 2 ^ (1000 - e)

-- the credit of those of the 1,001 places that are taken
abbrev pub total : List Bool → ℕ
total ps = sum_by (λ k. if slice_index_or ps k false then credit_of k else 0) (range_with_len 0 1001)

-- one more credit at place e: a free place is taken; a taken one is cleared, and its credit is carried to the next lower
-- number; place 0, with none lower, is taken
abbrev pub carried : List Bool → ℕ → List Bool
carried ps zero = slice_set ps zero true
carried ps (suc e) = if slice_index_or ps (suc e) false then carried (slice_set ps (suc e) false) e else slice_set ps (suc e) true

-- this place is free, and all after it are taken
pub record IsLastFree (ps : List Bool) (place : ℕ) : Type 0 where
  pub inside : place < length ps
  pub is_free : slice_index_or ps place false ≡ false
  pub rest_taken : (k : ℕ) → place < k → k < length ps → slice_index_or ps k false ≡ true

-- The same at once: the last free place up to e is taken, the places after it up to e, which were taken, are
-- freed, and every other place is as it was.
pub record Added (before : List Bool) (e : ℕ) (after : List Bool) : Type 0 where
  pub place : ℕ
  pub up_to : place ≤ e
  pub was_free : slice_index_or before place false ≡ false
  pub were_taken : (k : ℕ) → place < k → k ≤ e → slice_index_or before k false ≡ true
  pub is_taken : slice_index_or after place false ≡ true
  pub are_free : (k : ℕ) → place < k → k ≤ e → slice_index_or after k false ≡ false
  pub same_before : (k : ℕ) → k < place → slice_index_or after k false ≡ slice_index_or before k false
  pub same_beyond : (k : ℕ) → e < k → slice_index_or after k false ≡ slice_index_or before k false
  pub size : length after ≡ length before
