-- Paths through a mesh, their labels, and the best label of a node.
use Rattle.std.specs.Prelude.{◌≡◌, ℕ, ◌<◌, ◌≤◌, List, [], ◌∷◌, ◌++◌, length, vec_items, slice_index_or}
use Rattle.mesh.specs.declared.link.Link.{Link}
use Rattle.mesh.specs.declared.mesh.Mesh.{Mesh}
use Rattle.label.specs.Kinds.{Kind}

-- A mesh as a graph: nodes are the numbers below `nodes`, and links are numbered from 0.
pub record Graph : Type 0 where
  pub nodes : ℕ
  pub root : ℕ
  pub links : List Link

abbrev pub graph : Mesh → Graph
graph m = record { nodes = m.nodes; root = m.root; links = vec_items m.links }

-- the link of a number (any link, where there is none of that number)
abbrev pub link_at : Graph → ℕ → Link
link_at g k = slice_index_or g.links k (record { from = 0; to = 0; cost = 0; width = 0 })

-- A path is a list of link numbers, its last link first; repeats are allowed. It leads from the root to v.
abbrev pub Leads : Graph → List ℕ → ℕ → Type 0
Leads g [] v = v ≡ g.root
Leads g (k ∷ ks) v = (k < length g.links) × ((link_at g k).to ≡ v) × Leads g ks (link_at g k).from

-- the label of a path: start, extended by its links in order
abbrev pub path_label : {L : Type 0} → Kind L → Graph → List ℕ → L
path_label κ g [] = κ.start
path_label κ g (k ∷ ks) = κ.extend (path_label κ g ks) (link_at g k)

-- The label a is the best of the labels of all paths to v: no path has a better one; where there is a path, some path
-- has this one; where there is none, a is none.
pub record Best {L : Type 0} (κ : Kind L) (g : Graph) (v : ℕ) (a : L) : Type 0 where
  pub least : (ks : List ℕ) → Leads g ks v → κ.rank a ≤ κ.rank (path_label κ g ks)
  pub met : (ks : List ℕ) → Leads g ks v → (js : List ℕ) × Leads g js v × (path_label κ g js ≡ a)
  pub none : ((ks : List ℕ) → Leads g ks v → ⊥) → a ≡ κ.none

-- Laws, for every lawful kind.

-- none extended is none
abbrev pub NoneStays : {L : Type 0} → Kind L → Type 0
NoneStays κ = (l : Link) → κ.extend κ.none l ≡ κ.none

-- a node has one best label
abbrev pub OneBest : {L : Type 0} → Kind L → Type 0
OneBest {L} κ = (g : Graph) (v : ℕ) (a b : L) → Best κ g v a → Best κ g v b → a ≡ b

-- the root's best label is start
abbrev pub RootStart : {L : Type 0} → Kind L → Type 0
RootStart κ = (g : Graph) → Best κ g g.root κ.start

-- a path's label is never better than that of the path up to one of its nodes
abbrev pub NeverBetter : {L : Type 0} → Kind L → Type 0
NeverBetter κ = (g : Graph) (js ks : List ℕ) → κ.rank (path_label κ g ks) ≤ κ.rank (path_label κ g (js ++ ks))

-- of two paths, the one at least as good stays so when both go on over the same links
abbrev pub GoesOn : {L : Type 0} → Kind L → Type 0
GoesOn κ = (g : Graph) (is js ks : List ℕ) → κ.rank (path_label κ g js) ≤ κ.rank (path_label κ g ks) → κ.rank (path_label κ g (is ++ js)) ≤ κ.rank (path_label κ g (is ++ ks))

pub record PathLaws {L : Type 0} (κ : Kind L) : Type 0 where
  pub none_stays : NoneStays κ
  pub one_best : OneBest κ
  pub root_start : RootStart κ
  pub never_better : NeverBetter κ
  pub goes_on : GoesOn κ
