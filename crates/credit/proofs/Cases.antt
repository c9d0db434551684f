-- The worked cases hold.
use Rattle.std.proofs.Common.{◌≡◌, ℕ, zero, suc, ◌+◌, ◌<◌, ◌≤◌, true, false, eqb, List, [], ◌∷◌, get_or, replicate, is_some, sym, refl, ap, ◌∙◌, inl, inr, le_of_eq, arith}
use Rattle.std.specs.List.{AllByRecursion}
use Rattle.std.proofs.lemmas.Bool.{both_ways, cases_eq, true≢false, eq-eqb, ne_eqb, or_from, or_left}
use Rattle.detector.specs.Tables.{replicated}
use Rattle.credit.specs.declared.credit.Credit.{Credit}
use Rattle.credit.specs.Places.{value, whole, credit_of, Added}
use Rattle.credit.specs.Meaning.{is_last}
use Rattle.credit.specs.Worked.{among, Exactly, Worked}
use Rattle.credit.specs.ValuesLemmas.{value_none, whole_sum, credit_whole}
use Rattle.credit.proofs.Values.{value_some, summed, whole_room, whole_closed}

-- a place above all of these is not one of them
above_all : (ps : List ℕ) (k : ℕ) → AllByRecursion (λ p. p < k) ps → among ps k ≡ false
above_all [] k below = refl
above_all (p ∷ ps) k below = or_from (eqb k p) (among ps k) (ne_eqb k p (λ at. omega (arith, at, below.0))) (above_all ps k below.1)

below_all : (p k : ℕ) → k < p → among (p ∷ []) k ≡ false
below_all p k lt = or_from (eqb k p) false (ne_eqb k p (λ at. omega (arith, at, lt))) refl

-- Place e alone is what one credit at place e makes of no places: place e is free, so nothing is carried.
first_credit : (d : Credit) (e : ℕ) → e ≤ 1000 → Exactly d (e ∷ []) → Added (replicate 1001 false) e d.recovered.taken
first_credit d e few only = record {
  place = e;
  up_to = omega arith;
  was_free = replicated 1001 e false;
  were_taken = λ k lo hi. absurd (omega arith);
  is_taken = only e ∙ or_left (eqb e e) false (eq-eqb e e refl);
  are_free = λ k lo hi. absurd (omega arith);
  same_before = λ k lo. only k ∙ below_all e k lo ∙ sym (replicated 1001 k false);
  same_beyond = λ k lo. only k ∙ above_all (e ∷ []) k (lo, tt) ∙ sym (replicated 1001 k false);
  size = d.recovered.width;
}

place_worth : (d : Credit) (e : ℕ) → e ≤ 1000 → Exactly d (e ∷ []) → value d.recovered.taken ≡ credit_of e
place_worth d e few only =
    let none : value (replicate 1001 false) ≡ 0 = value_none (replicate 1001 false) (λ k lt. replicated 1001 k false) in
    omega (arith, whole_sum (replicate 1001 false) refl d.recovered.taken e few (first_credit d e few only), none)

-- Place 2 alone, and one more credit at place 2: it is carried to the last free place up to 2. That is 1, since place 2 is
-- taken, and were it 0, place 1 would have been taken too.
module _ (d e : Credit) (only : Exactly d (2 ∷ [])) (a : Added d.recovered.taken 2 e.recovered.taken) where
  place_one : a.place ≡ 1
  place_one = elim (cases_eq a.place 2) [
    | inl at ↦ absurd (both_ways _ a.was_free (ap (λ k. get_or d.recovered.taken k false) at ∙ only 2))
    | inr not-two ↦ elim (cases_eq a.place 0) [
      | inl at ↦ absurd (both_ways _ (only 1) (a.were_taken 1 (omega (arith, at)) (omega arith)))
      | inr not-zero ↦ omega (arith, a.up_to, not-two, not-zero)
    ]
  ]

  -- so place 1 is taken, place 2 freed, and all others are as they were, that is free
  carried_one : Exactly e (1 ∷ [])
  carried_one zero = a.same_before 0 (omega (arith, place_one)) ∙ only 0
  carried_one (suc zero) = ap (λ k. get_or e.recovered.taken k false) (sym place_one) ∙ a.is_taken
  carried_one (suc (suc zero)) = a.are_free 2 (omega (arith, place_one)) (omega arith)
  carried_one (suc (suc (suc k))) =
      a.same_beyond (suc (suc (suc k))) (omega arith) ∙ only (suc (suc (suc k)))
      ∙ above_all (2 ∷ []) (suc (suc (suc k))) (omega arith, tt)
      ∙ sym (above_all (1 ∷ []) (suc (suc (suc k))) (omega arith, tt))

one_to_four : (k : ℕ) → 1 ≤ k → k ≤ 4 → among (1 ∷ 2 ∷ 3 ∷ 4 ∷ []) k ≡ true
one_to_four zero low high = absurd (omega arith)
one_to_four (suc zero) low high = refl
one_to_four (suc (suc zero)) low high = refl
one_to_four (suc (suc (suc zero))) low high = refl
one_to_four (suc (suc (suc (suc zero)))) low high = refl
one_to_four (suc (suc (suc (suc (suc k))))) low high = absurd (omega arith)

-- Places 1 to 4, and one more credit at place 4: the sum is one, and the last free place up to 4 is place 0.
module _ (d : Credit) (only : Exactly d (1 ∷ 2 ∷ 3 ∷ 4 ∷ [])) where
  four_fit : value d.recovered.taken + credit_of 4 ≤ whole
  four_fit = le_of_eq (whole_closed d.recovered.taken d.recovered.width 4 (only 0) (omega arith)
      (λ k low high. only k ∙ one_to_four k low high)
      (λ k low high. only k ∙ above_all (1 ∷ 2 ∷ 3 ∷ 4 ∷ []) k (omega arith, (omega arith, (omega arith, (omega arith, tt))))))

  carried_first : (e : Credit) → Added d.recovered.taken 4 e.recovered.taken → get_or e.recovered.taken 0 false ≡ true
  carried_first e a = elim (cases_eq a.place 0) [
    | inl at ↦ ap (λ k. get_or e.recovered.taken k false) (sym at) ∙ a.is_taken
    | inr ne ↦ absurd (both_ways _ a.was_free (only a.place ∙ one_to_four a.place (omega (arith, ne)) a.up_to))
  ]

-- Exponent 0 is the whole credit: with anything recovered there is no room for it.
no_room : (v c : ℕ) → 0 < v → c ≡ whole → v + c ≤ whole → ⊥
no_room v c some full fits = omega arith

pub cases : Worked
cases = record {
  summed = λ d. summed d.recovered.taken d.recovered.width;
  worth = place_worth;
  carried = λ d only. (
    ((omega arith, whole_room d.recovered.taken d.recovered.width 1 2 (only 0) (omega arith) (omega arith) (omega arith) (only 1)), tt),
    λ item e s. carried_one d e only s.added,
  );
  announced = λ d only. (((omega arith, four_fit d only), tt), λ item e s. carried_first d only e s.added);
  above_one = λ d only. inl
      (λ fits. no_room (value d.recovered.taken) (credit_of 0) (value_some d.recovered.taken 1 (omega (arith, d.recovered.width)) (only 1)) credit_whole fits.1, refl);
  last_sent = λ d node lt held. (
    (lt, (ap is_some held, (ap is_last held, tt))),
    λ mark e s. let same : s.exponent ≡ 999 = cc (s.held, held) in omega (arith, s.raised, same),
  );
  all_sent = λ d node lt held. inr (lt, inr (ap is_some held, inl ((λ h. true≢false (sym (ap is_last held) ∙ h)), refl)));
}
