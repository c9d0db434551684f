-- Chains of parents: they are paths, their labels are good, and they are short.
use Rattle.std.proofs.Common.{◌≡◌, ℕ, suc, ◌<◌, ◌≤◌, ◌≢◌, List, [], ◌∷◌, length, Some, Option, refl, ap, ◌∙◌, inl, inr, arith}
use mathlib.Core.List.Memᴰ
use mathlib.Core.List.{Memᴰ}
use native.Mathlib.Decide.{dec_lt}
use Rattle.label.specs.Kinds.{Kind, Lawful}
use Rattle.label.specs.Paths.{Graph, link_at, Leads, path_label}
use Rattle.routing.specs.Routes.{Parents, Route}
use Rattle.mesh.proofs.Pigeons.{Distinct, pigeons}
use Rattle.routing.proofs.Accepted.{Accepted}
use Rattle.routing.proofs.Invariant.{Rooted}

module _ {L : Type 0} (κ : Kind L) (g : Graph) (laws : Lawful κ) (ok : Accepted g) (label : ℕ → L) (parent : ℕ → Option ℕ) (rooted : Rooted κ g label parent) where
  -- the from node of a parent link is a node
  above : (v k : ℕ) → v < g.nodes → parent v ≡ Some k → (link_at g k).from < g.nodes
  above v k h e = ok.from_in k (rooted.linked v k h e).real

  -- Each parent link leads to its node, so a chain of them is a path.
  leads : (ks : List ℕ) (v : ℕ) → v < g.nodes → Parents g parent ks v → Leads g ks v
  leads [] v h p = p.0
  leads (k ∷ ks) v h p = let o = rooted.linked v k h p.0 in (o.real, o.to_here, leads ks (link_at g k).from (above v k h p.0) p.1)

  -- Link by link from the root, by the third law: the label of the path to the parent's node is at least as good as that
  -- node's, so what the link makes of it is at least as good as what the link makes of that node's label, and this is at
  -- least as good as the node's own.
  pub good : (ks : List ℕ) (v : ℕ) → v < g.nodes → Parents g parent ks v → κ.rank (path_label κ g ks) ≤ κ.rank (label v)
  good [] v h p = omega (arith, ap κ.rank (ap label p.0 ∙ rooted.root_label))
  good (k ∷ ks) v h p = omega (arith, (rooted.linked v k h p.0).good, laws.keeps _ _ (link_at g k) (good ks (link_at g k).from (above v k h p.0) p.1))

  -- the nodes of a chain
  nodes_of : List ℕ → ℕ → List ℕ
  nodes_of [] v = v ∷ []
  nodes_of (k ∷ ks) v = v ∷ nodes_of ks (link_at g k).from

  nodes_size : (ks : List ℕ) (v : ℕ) → length (nodes_of ks v) ≡ suc (length ks)
  unfolding nodes_of
  nodes_size [] v = refl
  nodes_size (k ∷ ks) v = ap suc (nodes_size ks (link_at g k).from)

  -- A node has at most one parent and the root has none, so all chains from a node are equally long.
  one_length : (ks js : List ℕ) (v : ℕ) → Parents g parent ks v → Parents g parent js v → length ks ≡ length js
  one_length [] [] v p q = refl
  one_length [] (j ∷ js) v p q = cc (p.1, q.0)
  one_length (k ∷ ks) [] v p q = cc (p.0, q.1)
  one_length (k ∷ ks) (j ∷ js) v p q =
      let e : j ≡ k = cc (p.0, q.0) in
      ap suc (one_length ks js (link_at g k).from p.1 (rw e at q.1))

  -- x is a node, and has a chain of at most n links
  record Within (n x : ℕ) : Type 0 where
    chain : List ℕ
    parents : Parents g parent chain x
    size : length chain ≤ n
    real : x < g.nodes

  here : (ks : List ℕ) (v x : ℕ) → v < g.nodes → Parents g parent ks v → x ≡ v → Within (length ks) x
  here ks v x h p e = record { chain = ks; parents = rw e p; size = omega arith; real = omega arith }

  -- Each node of a chain has a chain that is no longer: the rest of it.
  within : (ks : List ℕ) (v x : ℕ) → v < g.nodes → Parents g parent ks v → Memᴰ x (nodes_of ks v) → Within (length ks) x
  unfolding nodes_of
  within [] v x h p q = here [] v x h p (Memᴰ.eq_of_singleton q)
  within (k ∷ ks) v x h p q = elim (Memᴰ.cases_cons q) [
    | inl e ↦ here (k ∷ ks) v x h p e
    | inr r ↦
        let o = within ks (link_at g k).from x (above v k h p.0) p.1 r in
        record { chain = o.chain; parents = o.parents; size = omega arith; real = o.real }
  ]

  -- Were a node twice on a chain, it would have two chains, one shorter than the other.
  distinct : (ks : List ℕ) (v : ℕ) → v < g.nodes → Parents g parent ks v → Distinct (nodes_of ks v)
  unfolding nodes_of
  distinct [] v h p = (Memᴰ.not-nil, tt)
  distinct (k ∷ ks) v h p =
      let h' = above v k h p.0 in (
        λ q. let o = within ks (link_at g k).from v h' p.1 q in omega (arith, one_length (k ∷ ks) o.chain v p o.parents),
        distinct ks (link_at g k).from h' p.1,
      )

  -- The nodes of a chain are one more than its links, distinct, and below the number of nodes.
  short : (ks : List ℕ) (v : ℕ) → v < g.nodes → Parents g parent ks v → length ks < g.nodes
  short ks v h p = omega (arith, nodes_size ks v, pigeons g.nodes (nodes_of ks v) (distinct ks v h p) (λ x q. (within ks v x h p q).real))

  -- a label other than none is better
  pub labelled : (l : L) → l ≢ κ.none → κ.rank l < κ.rank κ.none
  labelled l n = elim (dec_lt (κ.rank l) (κ.rank κ.none)) [ yes b ↦ b | no c ↦ absurd (n (laws.same _ _ (omega (arith, laws.worst l)))) ]

  -- so each node with a label has a route
  pub route : (v : ℕ) → v < g.nodes → label v ≢ κ.none → Route g parent v
  route v h n =
      let o = rooted.up v h (labelled (label v) n) in
      record { path = o.0; parents = o.1; leads = leads o.0 v h o.1; short = short o.0 v h o.1 }
