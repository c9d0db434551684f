-- Routes: where the parents lead; and what holds of the routes of every reached state and of every quiet one.
use Rattle.std.specs.Prelude.{◌≡◌, ℕ, ◌<◌, ◌≤◌, ◌≢◌, List, [], ◌∷◌, length, Some, None, Option}
use Rattle.mesh.specs.declared.mesh.Mesh.{Mesh}
use Rattle.label.specs.Kinds.{Kind}
use Rattle.label.specs.Paths.{Graph, graph, link_at, Leads, path_label, Best}
use Rattle.routing.specs.States.{State, Quiet}
use Rattle.routing.specs.Protocol.{Event, Reached}

-- going from v over parent links, each back to its from node, takes the links ks and ends at the root, which has no
-- parent
abbrev pub Parents : Graph → (ℕ → Option ℕ) → List ℕ → ℕ → Type 0
Parents g parent [] v = (v ≡ g.root) × (parent v ≡ None)
Parents g parent (k ∷ ks) v = (parent v ≡ Some k) × Parents g parent ks (link_at g k).from

-- A route of v: the parents lead from v to the root, over the links of a path to v, in fewer steps than there are nodes.
pub record Route (g : Graph) (parent : ℕ → Option ℕ) (v : ℕ) : Type 0 where
  pub path : List ℕ
  pub parents : Parents g parent path v
  pub leads : Leads g path v
  pub short : length path < g.nodes

module _ {L : Type 0} (κ : Kind L) (g : Graph) where
  -- The chart is right: every node has its best label, and each node that has a label other than none has a route along
  -- a path with exactly that label.
  pub record Charted (s : State L) : Type 0 where
    pub best : (v : ℕ) → v < g.nodes → Best κ g v (s.label v)
    pub route : (v : ℕ) → v < g.nodes → s.label v ≢ κ.none → (r : Route g s.parent v) × (path_label κ g r.path ≡ s.label v)

  -- What holds before the end: the root keeps start and has no parent; each label other than none is the label of a path
  -- to its node, and the node has a route along a path whose label is at least as good.
  pub record Provisional (s : State L) : Type 0 where
    pub root_label : s.label g.root ≡ κ.start
    pub root_parent : s.parent g.root ≡ None
    pub path : (v : ℕ) → v < g.nodes → s.label v ≢ κ.none → (ks : List ℕ) × Leads g ks v × (path_label κ g ks ≡ s.label v)
    pub route : (v : ℕ) → v < g.nodes → s.label v ≢ κ.none → (r : Route g s.parent v) × (κ.rank (path_label κ g r.path) ≤ κ.rank (s.label v))

-- The theorems, for every mesh and any events.

-- a quiet state has the best routes
abbrev pub BestRoutes : {L : Type 0} → Kind L → Type 0
BestRoutes {L} κ = (m : Mesh) (es : List (Event L)) (s : State L) → Reached κ (graph m) es s → Quiet (graph m) s → Charted κ (graph m) s

-- every state has routes at least as good as its labels
abbrev pub ProvisionalRoutes : {L : Type 0} → Kind L → Type 0
ProvisionalRoutes {L} κ = (m : Mesh) (es : List (Event L)) (s : State L) → Reached κ (graph m) es s → Provisional κ (graph m) s

-- Two quiet states of one mesh agree in every label, whatever led to them. (Two values of type `Mesh` with the same nodes,
-- root and links are one mesh.)
abbrev pub Agreement : {L : Type 0} → Kind L → Type 0
Agreement {L} κ =
    (m n : Mesh) (ds es : List (Event L)) (s t : State L)
    → graph m ≡ graph n
    → Reached κ (graph m) ds s
    → Reached κ (graph n) es t
    → Quiet (graph m) s
    → Quiet (graph n) t
    → (v : ℕ) → v < m.nodes → s.label v ≡ t.label v

pub record RoutingTheorem {L : Type 0} (κ : Kind L) : Type 0 where
  pub best_routes : BestRoutes κ
  pub provisional_routes : ProvisionalRoutes κ
  pub agreement : Agreement κ
