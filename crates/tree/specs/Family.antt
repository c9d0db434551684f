-- Parents and children in a table.
use Rattle.std.specs.Prelude.{◌≡◌, ℕ, suc, ◌+◌, ◌<◌, true, false, List, [], ◌∷◌, length, Some, None, Option, refl}
use Rattle.std.proofs.Common.{sym, ap, ◌∙◌, inl, inr, arith}
use Rattle.std.proofs.lemmas.List.{get_or_past}
use Rattle.std.proofs.lemmas.List.Sums.{get_or-le-sum_by, sum_by-cons}
use Rattle.std.proofs.lemmas.Bool.{both_ways, cases_Bool, cases_lt, cases_eq, cond-false}
use Rattle.detector.specs.Tables.{sum_of_nothing}
use Rattle.tree.specs.declared.node.Node.{Node}
use Rattle.tree.specs.Rules.{blank, node_at}
use Rattle.tree.specs.Balance.{hit, hits, tree_parent, parent_hit, child, children, some_hit, has_parent, with_parent}
use Rattle.tree.specs.Tables.{hit_same, hit_other, hits_cons}

-- a node outside the tree has no parent in it
pub outside_parent : (r : Node) → r.engaged ≡ false → tree_parent r ≡ None
outside_parent r free = cond-false r.engaged r.parent None free

-- a node with a parent in the tree is in it
pub child_engaged : (r : Node) (p : ℕ) → tree_parent r ≡ Some p → r.engaged ≡ true
child_engaged r p e = elim (cases_Bool r.engaged) [ inl on ↦ on | inr free ↦ cc (e, outside_parent r free) ]

-- what is in the tree stands in the table
pub in_table : (rs : List Node) (k : ℕ) → (node_at rs k).engaged ≡ true → k < length rs
in_table rs k e =
    elim (cases_lt k (length rs)) [
      | inl lt ↦ lt
      | inr past ↦ absurd (both_ways (node_at rs k).engaged (ap (λ r. r.engaged) (get_or_past rs k blank past)) e)
    ]

-- a parent has a child that counts
pub child_counts : (rs : List Node) (k p : ℕ) → tree_parent (node_at rs k) ≡ Some p → 0 < children p rs
child_counts rs k p e =
    let one : child p (node_at rs k) ≡ hit p p = ap (parent_hit p) e in
    omega (arith, get_or-le-sum_by (child p) rs k blank (in_table rs k (child_engaged (node_at rs k) p e)), one, hit_same p)

-- Who has children has one that can be named: go through the table to the first record whose parent it is.
pub child_exists : (n : ℕ) (rs : List Node) → 0 < children n rs → (k : ℕ) × (tree_parent (node_at rs k) ≡ Some n)
child_exists n [] h = absurd (omega arith)
child_exists n (r ∷ rs) h = go (tree_parent r) refl (child_exists n rs)
  where
    total : 0 < child n r + children n rs
    total = omega (arith, sum_by-cons (child n) r rs)

    later : child n r ≡ 0 → (0 < children n rs → (k : ℕ) × (tree_parent (node_at rs k) ≡ Some n)) → (k : ℕ) × (tree_parent (node_at (r ∷ rs) k) ≡ Some n)
    later none more = let rest = more (omega (arith, none, total)) in (suc rest.0, rest.1)

    go : (o : Option ℕ) → tree_parent r ≡ o → (0 < children n rs → (k : ℕ) × (tree_parent (node_at rs k) ≡ Some n)) → (k : ℕ) × (tree_parent (node_at (r ∷ rs) k) ≡ Some n)
    go None e more = later (ap (parent_hit n) e) more
    go (Some p) e more = elim (cases_eq n p) [ inl same ↦ (0, e ∙ ap Some (sym same)) | inr ne ↦ later (ap (parent_hit n) e ∙ hit_other n p ne) more ]

-- a list in which no number stands is empty
pub no_hits : (xs : List ℕ) → ((n : ℕ) → hits n xs ≡ 0) → xs ≡ []
no_hits [] h = refl
no_hits (x ∷ xs) h = absurd (omega (arith, h x, hits_cons x x xs, hit_same x))

-- a table without parents has no with_parent and no children
pub none_with_parent : (rs : List Node) → ((k : ℕ) → tree_parent (node_at rs k) ≡ None) → with_parent rs ≡ 0
none_with_parent rs h = sum_of_nothing has_parent rs blank (λ k. ap some_hit (h k))

pub no_children : (n : ℕ) (rs : List Node) → ((k : ℕ) → tree_parent (node_at rs k) ≡ None) → children n rs ≡ 0
no_children n rs h = sum_of_nothing (child n) rs blank (λ k. ap (parent_hit n) (h k))
