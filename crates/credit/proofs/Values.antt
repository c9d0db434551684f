-- More on sets of places as binary numbers: when one more credit keeps the sum at one, and when it does not.
use Rattle.std.specs.Prelude.{◌≡◌, ℕ, zero, suc, ◌+◌, ◌-◌, ◌^◌, ◌<◌, ◌≤◌, Bool, true, false, List, [], ◌∷◌, length, get_or, drop, slice_index_or, sum_by, if◌then◌else◌, refl}
use Rattle.std.specs.List.{range_with_len}
use Rattle.std.proofs.lemmas.List.Sums.{sum_by-cons}
use Rattle.std.proofs.Common.{sym, ap, ◌∙◌, arith, lt_irrefl, lt_of_lt_of_le, pow_pos, pow_mono}
use Rattle.std.proofs.Math.Logic.{inl, inr}
use Rattle.std.proofs.Math.Nat.{two-pow-succ}
use Rattle.std.proofs.lemmas.Bool.{cases_Bool, cases_lt}
use Rattle.std.proofs.lemmas.List.{length-drop, get_or-drop, get_or_past}
use Rattle.credit.specs.Places.{place_value, value, total, whole, credit_of}
use Rattle.credit.specs.ValuesLemmas.{place_most, when_taken, when_free, value_below, value_none, value_full}

-- all places from 1 to e are taken
abbrev pub AllTaken : List Bool → ℕ → Type 0
AllTaken ps e = (k : ℕ) → 1 ≤ k → k ≤ e → slice_index_or ps k false ≡ true

-- all places beyond e are free
abbrev pub NoneBeyond : List Bool → ℕ → Type 0
NoneBeyond ps e = (k : ℕ) → e < k → k ≤ 1000 → slice_index_or ps k false ≡ false

-- Some place taken: some value.
pub value_some : (ps : List Bool) (k : ℕ) → k < length ps → slice_index_or ps k false ≡ true → 0 < value ps
value_some [] k lt on = absurd (omega arith)
value_some (p ∷ ps) zero lt on = omega (arith, when_taken p (length ps) on, pow_pos (length ps))
value_some (p ∷ ps) (suc k) lt on = omega (arith, value_some ps k (omega arith) on)

-- Among the first e + 1 of n places one is free: one more credit at place e gives at most 2 to the power n. At the free
-- place, the places after it are worth less than it would be, and the credit is worth no more than it; so both together
-- are at most twice that. One more place in front adds at most 2 to the power n to the value, and as much to the bound.
pub value_room : (ps : List Bool) (f e : ℕ) → f ≤ e → e < length ps → slice_index_or ps f false ≡ false → value ps + 2 ^ (length ps - suc e) ≤ 2 ^ length ps
value_room [] f e low few off = absurd (omega arith)
value_room (p ∷ ps) zero e low few off =
    let less : 2 ^ (suc (length ps) - suc e) ≤ 2 ^ length ps = pow_mono (omega arith) in
    omega (arith, less, when_free p (length ps) off, value_below ps, two-pow-succ (length ps))
value_room (p ∷ ps) (suc f) zero low few off = absurd (omega arith)
value_room (p ∷ ps) (suc f) (suc e) low few off =
    let same : 2 ^ (suc (length ps) - suc (suc e)) ≡ 2 ^ (length ps - suc e) = ap (λ k. 2 ^ k) (omega arith) in
    omega (arith, same, place_most p (length ps), value_room ps f e (omega arith) (omega arith) off, two-pow-succ (length ps))

-- Of n + 1 places, of which place 0 is worth 2 to the power n.
module _ (n : ℕ) where
  -- place 0 is taken, and another: more than that
  pub first_and_other : (ps : List Bool) (k : ℕ) → length ps ≡ suc n → slice_index_or ps 0 false ≡ true → 1 ≤ k → k ≤ n → slice_index_or ps k false ≡ true → 2 ^ n < value ps
  first_and_other [] k long on low few more = absurd (omega arith)
  first_and_other (p ∷ ps) zero long on low few more = absurd (omega arith)
  first_and_other (p ∷ ps) (suc k) long on low few more =
      let power : 2 ^ length ps ≡ 2 ^ n = ap (λ k. 2 ^ k) (omega arith) in
      omega (arith, when_taken p (length ps) on, power, value_some ps k (omega arith) more)

  -- place 0 is free, and another up to e: one more credit at e gives at most that
  pub sum_with_room : (ps : List Bool) (f e : ℕ) → length ps ≡ suc n → slice_index_or ps 0 false ≡ false → 1 ≤ f → f ≤ e → e ≤ n → slice_index_or ps f false ≡ false → value ps + 2 ^ (n - e) ≤ 2 ^ n
  sum_with_room [] f e long off low mid high room = absurd (omega arith)
  sum_with_room (p ∷ ps) zero e long off low mid high room = absurd (omega arith)
  sum_with_room (p ∷ ps) (suc f) zero long off low mid high room = absurd (omega arith)
  sum_with_room (p ∷ ps) (suc f) (suc e) long off low mid high room =
      let power : 2 ^ length ps ≡ 2 ^ n = ap (λ k. 2 ^ k) (omega arith) in
      let same : 2 ^ (n - suc e) ≡ 2 ^ (length ps - suc e) = ap (λ k. 2 ^ (k - suc e)) (omega arith) in
      omega (arith, when_free p (length ps) off, power, same, value_room ps f e (omega arith) (omega arith) room)

  -- place 0 is free, and none of the others up to e: one more credit at e carries into place 0, so it gives that and
  -- what the places beyond e are worth
  sum_carried : (ps : List Bool) (e : ℕ) → length ps ≡ suc n → slice_index_or ps 0 false ≡ false → e ≤ n → AllTaken ps e → value ps + 2 ^ (n - e) ≡ 2 ^ n + value (drop (suc e) ps)
  sum_carried [] e long off few all = absurd (omega arith)
  sum_carried (p ∷ ps) e long off few all =
      let power : 2 ^ length ps ≡ 2 ^ n = ap (λ k. 2 ^ k) (omega arith) in
      let same : 2 ^ (n - e) ≡ 2 ^ (length ps - e) = ap (λ k. 2 ^ (k - e)) (omega arith) in
      omega (arith, when_free p (length ps) off, power, same, value_full e ps (omega arith) (λ k lt. all (suc k) (omega arith) (omega arith)))

  -- which is at most that if no place beyond e is taken
  pub sum_closed : (ps : List Bool) (e : ℕ) → length ps ≡ suc n → slice_index_or ps 0 false ≡ false → e ≤ n → AllTaken ps e → ((k : ℕ) → e < k → k ≤ n → slice_index_or ps k false ≡ false) → value ps + 2 ^ (n - e) ≡ 2 ^ n
  sum_closed ps e long off few all none =
      let rest : value (drop (suc e) ps) ≡ 0 = value_none (drop (suc e) ps)
      (λ k lt. let in_range : suc e + k ≤ n = omega (arith, length-drop (suc e) ps) in
      get_or-drop (suc e) ps k false ∙ none (suc e + k) (omega arith) in_range) in
      omega (arith, sum_carried ps e long off few all, rest)

  -- and more if one is
  pub sum_over : (ps : List Bool) (e k : ℕ) → length ps ≡ suc n → slice_index_or ps 0 false ≡ false → e ≤ n → AllTaken ps e → e < k → k ≤ n → slice_index_or ps k false ≡ true → 2 ^ n < value ps + 2 ^ (n - e)
  sum_over ps e k long off few all low high on =
      let back : suc e + (k - suc e) ≡ k = omega arith in
      let there : get_or (drop (suc e) ps) (k - suc e) false ≡ true = get_or-drop (suc e) ps (k - suc e) false ∙ ap (λ j. get_or ps j false) back ∙ on in
      omega (arith, sum_carried ps e long off few all, value_some (drop (suc e) ps) (k - suc e) (omega (arith, length-drop (suc e) ps)) there)

-- The same of the 1,001 places of the detector.
module _ (ps : List Bool) (long : length ps ≡ 1001) where
  -- at most one, with place 0 taken: no other place is
  pub whole_alone : value ps ≤ whole → slice_index_or ps 0 false ≡ true → (k : ℕ) → 1 ≤ k → slice_index_or ps k false ≡ false
  unfolding whole
  whole_alone part on k low = elim (cases_lt k 1001) [
    | inl lt ↦ elim (cases_Bool (slice_index_or ps k false)) [
      | inl more ↦ absurd (lt_irrefl whole (lt_of_lt_of_le (first_and_other 1000 ps k long on low (omega arith) more) part))
      | inr e ↦ e
    ]
    | inr past ↦ get_or_past ps k false (omega arith)
  ]

  pub whole_room : (f e : ℕ) → slice_index_or ps 0 false ≡ false → 1 ≤ f → f ≤ e → e ≤ 1000 → slice_index_or ps f false ≡ false → value ps + credit_of e ≤ whole
  unfolding whole
  whole_room f e = sum_with_room 1000 ps f e long

  pub whole_closed : (e : ℕ) → slice_index_or ps 0 false ≡ false → e ≤ 1000 → AllTaken ps e → NoneBeyond ps e → value ps + credit_of e ≡ whole
  unfolding whole
  whole_closed e = sum_closed 1000 ps e long

  pub whole_over : (e k : ℕ) → slice_index_or ps 0 false ≡ false → e ≤ 1000 → AllTaken ps e → e < k → k ≤ 1000 → slice_index_or ps k false ≡ true → whole < value ps + credit_of e
  unfolding whole
  whole_over e k = sum_over 1000 ps e k long

-- From place a on, the value is the credit of the places that are taken: the first is worth 2 to the power of how many
-- follow it, which is 1,000 less its number, and the rest follows in the same way.
summed_from : (qs ps : List Bool) (a : ℕ) → a + length ps ≡ 1001 → ((j : ℕ) → slice_index_or qs (a + j) false ≡ slice_index_or ps j false) → sum_by (λ k. if slice_index_or qs k false then credit_of k else 0) (range_with_len a (length ps)) ≡ value ps
summed_from qs [] a e h = refl
summed_from qs (p ∷ ps) a e h =
    let f : ℕ → ℕ = λ k. if slice_index_or qs k false then credit_of k else 0 in
    let first : f a ≡ place_value p (length ps) = ap (λ b. if b then credit_of a else 0) (ap (λ j. slice_index_or qs j false) (omega arith) ∙ h 0) ∙ ap (λ n. if p then 2 ^ n else 0) (omega (arith, e)) in
    let rest = summed_from qs ps (a + 1) (omega (arith, e)) (λ j. ap (λ k. slice_index_or qs k false) (omega arith) ∙ h (suc j)) in
    sum_by-cons f a (range_with_len (a + 1) (length ps)) ∙ ap (λ x. x + sum_by f (range_with_len (a + 1) (length ps))) first ∙ ap (λ x. place_value p (length ps) + x) rest

pub summed : (ps : List Bool) → length ps ≡ 1001 → value ps ≡ total ps
summed ps long = sym (summed_from ps ps 0 (omega (arith, long)) (λ j. ap (λ k. slice_index_or ps k false) (omega arith))) ∙ ap (λ n. sum_by (λ k. if slice_index_or ps k false then credit_of k else 0) (range_with_len 0 n)) long
