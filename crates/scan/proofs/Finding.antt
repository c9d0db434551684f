-- What a search among words found.
use Rattle.std.proofs.Common.{◌≡◌, ℕ, ◌<◌, List, [], ◌∷◌, length, get_or, Some, None, Option, Bool, bytes_eq, sym, ◌∙◌, subst, inl, inr, arith}
use Rattle.std.specs.Borrow.{Bor}
use Rattle.std.specs.List.{position, position_or_len}
use Rattle.std.proofs.lemmas.List.{length-map, get_or-map}
use Rattle.std.proofs.lemmas.List.Sums.{fails_before_first, passes_at_first}
use Rattle.std.proofs.lemmas.Bool.{cases_lt, both_ways, cond-true, cond-false, lt-ltb, le-ltb}
use Rattle.std.proofs.lemmas.Slice.Eq.{bytes_eq-Decides}
use Rattle.format.specs.Columns.{texts}
use Rattle.format.specs.Filling.{Found}

-- The first word that is the text stands where `position` says, or no word is the text.
pub found : (ws : List (Bor (List ℕ))) (t : List ℕ) (r : Option ℕ) → r ≡ position (λ w. bytes_eq w.now t) ws → Found (texts ws) t r
found [] t r e = subst (Found [] t) (sym e) (λ k l. absurd (omega arith))
found (w ∷ ws) t r e = elim (cases_lt n (length all)) [
  | inl lt ↦
      let is : r ≡ Some n = e ∙ cond-true _ _ _ (lt-ltb n (length all) lt) in
      subst (Found (texts all) t) (sym is) (omega (arith, length-map all (λ x. x.now)), word n lt ∙ (bytes_eq-Decides (get_or all n w).now t).0 (passes_at_first p all w lt))
  | inr past ↦
      let is : r ≡ None = e ∙ cond-false _ _ _ (le-ltb n (length all) past) in
      subst (Found (texts all) t) (sym is) (λ k l same.
      let lt : k < length all = omega (arith, length-map all (λ x. x.now)) in
      both_ways _ (fails_before_first p all k w (omega arith)) ((bytes_eq-Decides (get_or all k w).now t).1 (sym (word k lt) ∙ same)))
]
  where
    all : List (Bor (List ℕ))
    all = w ∷ ws

    p : Bor (List ℕ) → Bool
    p x = bytes_eq x.now t

    n : ℕ
    n = position_or_len p all

    word : (k : ℕ) → k < length all → get_or (texts all) k [] ≡ (get_or all k w).now
    word k lt = get_or-map (λ x. x.now) all k w [] lt
