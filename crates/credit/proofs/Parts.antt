-- What a search of a part of the places says, by the numbers of the places.
use Rattle.std.proofs.Common.{◌≡◌, ◌≢◌, ℕ, ◌+◌, ◌-◌, ◌<◌, ◌≤◌, Bool, true, false, List, length, get_or, Some, None, IsTrue, All, sym, ap, ◌∙◌, arith}
use Rattle.std.specs.Prelude.{Option, MatchOption, is_some}
use Rattle.std.specs.List.{IsAnyAnswer}
use Rattle.std.specs.Cmp.{booleans_Decides}
use Rattle.std.proofs.lemmas.List.{get_or-take, get_or-drop, length-drop, length-take-le}
use Rattle.std.proofs.lemmas.Bool.{both_ways, true≢false, false≢true, MatchBool-at_true, MatchBool-at_false}
use Rattle.credit.specs.Places.{IsLastFree}
use mathlib.Core.Bool.{beq}
use borrow.Rule.Slice.PartMut.{mid_of}

-- The n places from place a on.
module _ (ps : List Bool) (a n : ℕ) (inside : a + n ≤ length ps) where
  long : length (mid_of a n ps) ≡ n
  long = length-take-le n _ (omega (arith, length-drop a ps))

  read : (k : ℕ) → k < n → get_or (mid_of a n ps) k false ≡ get_or ps (a + k) false
  read k lt = get_or-take n _ k false lt ∙ get_or-drop a ps k false

  -- Where b was looked for among them, it was found at one of them, or none of them is b.
  module _ (b r : Bool) (answer : IsAnyAnswer (λ x v. beq x b ≡ v) (mid_of a n ps) r) where
    pub found : r ≡ true → (k : ℕ) × (a ≤ k) × (k < a + n) × (get_or ps k false ≡ b)
    found hit =
        let at = MatchBool-at_true _ _ hit answer in
        (a + at.0, omega arith, omega (arith, at.1, long), sym (read at.0 (omega (arith, at.1, long))) ∙ (booleans_Decides _ b).0 (at.2 false))

    pub not_found : r ≡ false → (k : ℕ) → a ≤ k → k < a + n → get_or ps k false ≢ b
    not_found miss k low high same =
        let none = MatchBool-at_false _ _ miss answer in
        let back : a + (k - a) ≡ k = omega arith in
        let here : get_or (mid_of a n ps) (k - a) false ≡ b = read (k - a) (omega arith) ∙ ap (λ j. get_or ps j false) back ∙ same in
        both_ways _ (none (k - a) false (omega arith) (omega (arith, long))) ((booleans_Decides _ b).1 here)

  -- what a search for the last free one of them answers
  abbrev Searched : Option ℕ → Type 0
  Searched o = MatchOption o (All IsTrue (mid_of a n ps)) (IsLastFree (mid_of a n ps))

  pub one_free : (o : Option ℕ) → Searched o → is_some o ≡ true → (k : ℕ) × (a ≤ k) × (k < a + n) × (get_or ps k false ≡ false)
  one_free None all hit = absurd (false≢true hit)
  one_free (Some k) last hit = (a + k, omega arith, omega (arith, last.inside, long), sym (read k (omega (arith, last.inside, long))) ∙ last.is_free)

  pub none_free : (o : Option ℕ) → Searched o → is_some o ≡ false → (k : ℕ) → a ≤ k → k < a + n → get_or ps k false ≡ true
  none_free None all miss k low high =
      let back : a + (k - a) ≡ k = omega arith in
      sym (ap (λ j. get_or ps j false) back) ∙ sym (read (k - a) (omega arith)) ∙ all (k - a) false (omega (arith, long))
  none_free (Some j) last miss k low high = absurd (true≢false miss)
