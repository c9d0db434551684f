-- A table in which one record changes, and how often a number stands in a list.
use Rattle.std.specs.Prelude.{◌≡◌, ℕ, ◌+◌, ◌<◌, ◌≢◌, List, ◌∷◌, length, ◌==◌, slice_set, refl}
use Rattle.std.proofs.Common.{sym, subst, inl, inr, arith}
use Rattle.std.proofs.lemmas.List.{get_or-set_same, get_or-set_other}
use Rattle.std.proofs.lemmas.List.Sums.{sum_by-set, sum_by-cons}
use Rattle.std.proofs.lemmas.Bool.{cases_eq, eq-eqb, ne_eqb, cond-true, cond-false}
use Rattle.tree.specs.declared.node.Node.{Node}
use Rattle.tree.specs.Rules.{blank, node_at}
use Rattle.tree.specs.Balance.{hit, hits, child, children, with_parent, has_parent}

-- What holds of the new record and of all the others holds of every record.
pub each_set : (P : ℕ → Node → Type 0) (rs : List Node) (i : ℕ) (r : Node) → i < length rs → ((k : ℕ) → k ≢ i → P k (node_at rs k)) → P i r → (k : ℕ) → P k (node_at (slice_set rs i r) k)
each_set P rs i r lt others here k =
    elim (cases_eq k i) [
      | inl e ↦ subst (λ j. P j (node_at (slice_set rs i r) j)) (sym e) (subst (P i) (sym (get_or-set_same rs i r blank lt)) here)
      | inr ne ↦ subst (P k) (sym (get_or-set_other rs i k r blank ne)) (others k ne)
    ]

pub hit_same : (n : ℕ) → hit n n ≡ 1
hit_same n = cond-true (n == n) 1 0 (eq-eqb n n refl)

pub hit_other : (n x : ℕ) → n ≢ x → hit n x ≡ 0
hit_other n x ne = cond-false (x == n) 1 0 (ne_eqb x n (λ e. ne (sym e)))

pub hits_cons : (n x : ℕ) (xs : List ℕ) → hits n (x ∷ xs) ≡ hit n x + hits n xs
hits_cons n x xs = sum_by-cons (hit n) x xs

pub children_set : (n : ℕ) (rs : List Node) (i : ℕ) (r : Node) → i < length rs → children n (slice_set rs i r) + child n (node_at rs i) ≡ children n rs + child n r
children_set n rs i r lt = sum_by-set (child n) rs i r blank lt

pub with_parent_set : (rs : List Node) (i : ℕ) (r : Node) → i < length rs → with_parent (slice_set rs i r) + has_parent (node_at rs i) ≡ with_parent rs + has_parent r
with_parent_set rs i r lt = sum_by-set has_parent rs i r blank lt

-- The record of node i becomes r, and other marks and items wait. The deficits still count what names each node if,
-- at every other node, what waits and i's parent count together as before, and at i the deficit changes by as much.
pub deficits_set : (rs : List Node) (marks items : List ℕ) (i : ℕ) (r : Node) (others rest : List ℕ) → i < length rs →
    ((n : ℕ) → (node_at rs n).deficit ≡ hits n marks + hits n items + children n rs) →
    ((n : ℕ) → n ≢ i → hits n others + hits n rest + child n r ≡ hits n marks + hits n items + child n (node_at rs i)) →
    hits i others + hits i rest + child i r + (node_at rs i).deficit ≡ hits i marks + hits i items + child i (node_at rs i) + r.deficit →
    (n : ℕ) → (node_at (slice_set rs i r) n).deficit ≡ hits n others + hits n rest + children n (slice_set rs i r)
deficits_set rs marks items i r others rest lt old flow here =
    each_set (λ n x. x.deficit ≡ hits n others + hits n rest + children n (slice_set rs i r)) rs i r lt
    (λ n ne. omega (arith, old n, flow n ne, children_set n rs i r lt))
    (omega (arith, old i, here, children_set i rs i r lt))
