-- An announcement is never too soon and never missed; and the order of what waits does not matter.
use Rattle.std.specs.Prelude.{◌≡◌, ℕ, zero, suc, ◌+◌, ◌<◌, ◌≤◌, Bool, true, false, ◌⊎◌, List, [], length, Some, None, Option, ◌≢◌, refl}
use Rattle.std.proofs.Common.{sym, ap, ◌∙◌, inl, inr, arith}
use Rattle.std.specs.List.Sorted.{IsPermutation}
use Rattle.std.proofs.lemmas.List.Sorted.{sum_by-IsPermutation, length_permutation}
use Rattle.std.proofs.lemmas.Bool.{both_ways, cases_Bool, cases_lt, not-true, not-false}
use Rattle.tree.specs.declared.node.Node.{Node}
use Rattle.tree.specs.Rules.{node_at}
use Rattle.tree.specs.Balance.{hit, tree_parent, children, with_parent, Loose, Balanced, owed}
use Rattle.tree.specs.Family.{outside_parent, child_engaged, in_table, child_counts, child_exists, no_hits, none_with_parent}

module _ (nodes root : ℕ) (announced : Bool) (rs : List Node) (marks items : List ℕ) (b : Loose nodes root announced rs marks items) where
  -- a node with a deficit is in the tree
  pub deficit_engaged : (k : ℕ) → 0 < (node_at rs k).deficit → (node_at rs k).engaged ≡ true
  deficit_engaged k h = elim (cases_Bool (node_at rs k).engaged) [ inl e ↦ e | inr e ↦ absurd (omega (arith, ((b.fits k).outside e).1)) ]

  -- a child counts in its parent's deficit, so the parent is in the tree too
  parent_engaged : (k p : ℕ) → tree_parent (node_at rs k) ≡ Some p → (node_at rs p).engaged ≡ true
  parent_engaged k p e = deficit_engaged p (omega (arith, b.deficits p, child_counts rs k p e))

  root_or_child : (k : ℕ) → announced ≡ true → (node_at rs k).engaged ≡ true → ((p : ℕ) → tree_parent (node_at rs k) ≢ Some p) → (o : Option ℕ) → tree_parent (node_at rs k) ≢ o
  root_or_child k ann eng no_child None e = both_ways (node_at rs k).engaged (not-true _ (sym ((b.fits k).announces ((b.fits k).parentless eng e)) ∙ ann)) eng
  root_or_child k ann eng no_child (Some p) e = no_child p e

  -- Assume that it has announced and that some node is in the tree. That node is not the root, which has left, so it has
  -- a parent, which is in the tree too and has a lower rank. Going on so, ranks would fall for ever.
  none_engaged : announced ≡ true → (fuel k : ℕ) → b.rank k < fuel → (node_at rs k).engaged ≢ true
  none_engaged ann zero k low eng = omega arith
  none_engaged ann (suc fuel) k low eng =
      root_or_child k ann eng (λ p e. none_engaged ann fuel p (omega (arith, (b.fits k).above p e)) (parent_engaged k p e)) (tree_parent (node_at rs k)) refl

  all_outside : announced ≡ true → (k : ℕ) → (node_at rs k).engaged ≡ false
  all_outside ann k = elim (cases_Bool (node_at rs k).engaged) [ inl e ↦ absurd (none_engaged ann (b.rank k + 1) k (omega arith) e) | inr e ↦ e ]

  -- With no node in the tree all are passive and no deficit is left; a waiting mark or signal would be part of a deficit.
  pub too_soon_never : announced ≡ true → ((k : ℕ) → (node_at rs k).active ≡ false) × (marks ≡ []) × (items ≡ []) × (owed rs marks ≡ 0)
  too_soon_never ann =
      let idle = λ (k : ℕ). (b.fits k).outside (all_outside ann k) in
      let no_marks : marks ≡ [] = no_hits marks (λ n. omega (arith, b.deficits n, (idle n).1)) in
      (λ k. (idle k).0, no_marks, no_hits items (λ n. omega (arith, b.deficits n, (idle n).1)), ap (owed rs) no_marks ∙ omega (arith, none_with_parent rs (λ k. outside_parent (node_at rs k) (all_outside ann k))))

  -- among the first n nodes none is in the tree, or one of those that are has the highest rank
  abbrev Deepest : ℕ → Type 0
  Deepest n = ((k : ℕ) → k < n → (node_at rs k).engaged ≡ false) ⊎ ((m : ℕ) × ((node_at rs m).engaged ≡ true) × ((k : ℕ) → k < n → (node_at rs k).engaged ≡ true → b.rank k ≤ b.rank m))

  below_suc : (n k : ℕ) → k < suc n → (k < n) ⊎ (k ≡ n)
  below_suc n k lt = elim (cases_lt k n) [ inl l ↦ inl l | inr g ↦ inr (omega arith) ]

  -- Consider node n beside those before it: outside the tree it changes nothing; in the tree it is the highest, or the one
  -- found before is.
  deepest : (n : ℕ) → Deepest n
  deepest zero = inl (λ k lt. absurd (omega arith))
  deepest (suc n) =
      elim (cases_Bool (node_at rs n).engaged) [
        | inr free ↦ elim (deepest n) [
          | inl none ↦ inl (λ k lt. elim (below_suc n k lt) [ inl l ↦ none k l | inr e ↦ ap (λ j. (node_at rs j).engaged) e ∙ free ])
          | inr most ↦ inr (most.0, most.1, λ k lt eng. elim (below_suc n k lt) [ inl l ↦ most.2 k l eng | inr e ↦ absurd (both_ways (node_at rs k).engaged (ap (λ j. (node_at rs j).engaged) e ∙ free) eng) ])
        ]
        | inl eng ↦ elim (deepest n) [
          | inl none ↦ inr (n, eng, λ k lt on. elim (below_suc n k lt) [ inl l ↦ absurd (both_ways (node_at rs k).engaged (none k l) on) | inr e ↦ omega (arith, ap b.rank e) ])
          | inr most ↦ elim (cases_lt (b.rank n) (b.rank most.0)) [
            | inl lower ↦ inr (most.0, most.1, λ k lt on. elim (below_suc n k lt) [ inl l ↦ most.2 k l on | inr e ↦ omega (arith, ap b.rank e, lower) ])
            | inr higher ↦ inr (n, eng, λ k lt on. elim (below_suc n k lt) [ inl l ↦ omega (arith, most.2 k l on, higher) | inr e ↦ omega (arith, ap b.rank e) ])
          ]
        ]
      ]

module _ (nodes root : ℕ) (announced : Bool) (rs : List Node) (b : Balanced nodes root announced rs [] []) (passive : (k : ℕ) → (node_at rs k).active ≡ false) where
  -- Assume that nothing is active or waits, and that it has not announced. Then the root is in the tree, so some node in
  -- the tree has the highest rank. It is passive and could not leave, so its deficit is not 0; as nothing waits, it has a
  -- child, which is in the tree with a higher rank still.
  no_deepest : announced ≡ false → Deepest nodes root announced rs [] [] b.loose (length rs) → ⊥
  no_deepest ann (inl none) =
      let eng : (node_at rs root).engaged ≡ true = not-false _ (sym ((b.loose.fits root).announces refl) ∙ ann) in
      both_ways (node_at rs root).engaged (none root (in_table rs root eng)) eng
  no_deepest ann (inr (m, eng, most)) =
      let children : 0 < children m rs = omega (arith, b.waits m eng (passive m), b.loose.deficits m) in
      let found = child_exists m rs children in
      let k = found.0 in
      let on = child_engaged (node_at rs k) m found.1 in
      omega (arith, (b.loose.fits k).above m found.1, most k (in_table rs k on) on)

  pub missed_never : announced ≡ true
  missed_never = elim (cases_Bool announced) [ inl e ↦ e | inr e ↦ absurd (no_deepest e (deepest nodes root announced rs [] [] b.loose (length rs))) ]

-- Only how often each number waits enters the balance.
pub any_order : (nodes root : ℕ) (announced : Bool) (rs : List Node) (marks items others rest : List ℕ) → IsPermutation marks others → IsPermutation items rest → Balanced nodes root announced rs marks items → Balanced nodes root announced rs others rest × (owed rs others ≡ owed rs marks)
any_order nodes root announced rs marks items others rest ms is b = (
  record {
    loose = record {
      rank = b.loose.rank;
      fits = b.loose.fits;
      deficits = λ n. omega (arith, b.loose.deficits n, sum_by-IsPermutation (hit n) marks others ms, sum_by-IsPermutation (hit n) items rest is);
    };
    waits = b.waits;
  },
  ap (λ n. n + with_parent rs) (length_permutation marks others ms),
)
