-- The theorem on best routes.
use Rattle.std.proofs.Common.{◌≡◌, ℕ, ◌<◌, ◌≤◌, ◌≢◌, List, [], ◌∷◌, length, sym, ap, subst, ◌∙◌, inl, inr, arith}
use mathlib.Core.List.Memᴰ
use Rattle.mesh.specs.declared.mesh.Mesh.{Mesh}
use Rattle.label.specs.Kinds.{Kind, Lawful}
use Rattle.label.specs.Paths.{Graph, graph, link_at, Leads, path_label, Best}
use Rattle.label.proofs.Bests.{one_best}
use Rattle.routing.specs.States.{State, Quiet}
use Rattle.routing.specs.Protocol.{Event, Reached}
use Rattle.routing.specs.Routes.{Route, Charted, Provisional, BestRoutes, ProvisionalRoutes, Agreement, RoutingTheorem}
use Rattle.routing.proofs.Accepted.{Accepted, accepted}
use Rattle.routing.proofs.Invariant.{Invariants}
use Rattle.routing.proofs.Steps.{reached_keeps}
use Rattle.routing.proofs.Chains.{good, route}

module _ {L : Type 0} (κ : Kind L) (g : Graph) (laws : Lawful κ) (ok : Accepted g) (s : State L) (i : Invariants κ g s) where
  has_route : (v : ℕ) → v < g.nodes → s.label v ≢ κ.none → Route g s.parent v
  has_route = route κ g laws ok s.label s.parent i.rooted

  good_route : (v : ℕ) → v < g.nodes → (r : Route g s.parent v) → κ.rank (path_label κ g r.path) ≤ κ.rank (s.label v)
  good_route v h r = good κ g laws ok s.label s.parent i.rooted r.path v h r.parents

  -- Each label other than none was made by a path, and the parents of such a node lead to the root along a path at least as
  -- good: both are invariants.
  provisional : Provisional κ g s
  provisional = record {
    root_label = i.rooted.root_label;
    root_parent = i.rooted.root_parent;
    path = λ v h n. elim (i.rooted.made v h) [ inl e ↦ absurd (n e) | inr p ↦ p ];
    route = λ v h n. (has_route v h n, good_route v h (has_route v h n));
  }

  module _ (quiet : Quiet g s) where
    -- In a quiet state every node is passive, so every link is before its from node's next link and is relaxed; and as
    -- no message waits, it is relaxed by the label at its end.
    relaxed : (k : ℕ) → k < length g.links → κ.rank (s.label (link_at g k).to) ≤ κ.rank (κ.extend (s.label (link_at g k).from) (link_at g k))
    relaxed k h =
        let v = (link_at g k).from in
        let b = ok.from_in k h in
        elim (i.relaxed k h (omega (arith, i.resting v b (quiet.passive v b)))) [
          | inl q ↦ q
          | inr q ↦ absurd (Memᴰ.not-nil (rw quiet.empty at q.1))
        ]

    -- No path has a better label than its node. The empty path has start, the root's label. A longer one: the label of the
    -- path up to the last link's from node is no better than that node's, so by the third law the whole path's is no
    -- better than what the link makes of that node's label, and the label at the link's end is at least as good as that.
    least : (ks : List ℕ) (v : ℕ) → Leads g ks v → κ.rank (s.label v) ≤ κ.rank (path_label κ g ks)
    least [] v e = omega (arith, ap κ.rank (ap s.label e ∙ i.rooted.root_label))
    least (k ∷ ks) v (h, e, q) = omega (arith, relaxed k h, laws.keeps _ _ (link_at g k) (least ks (link_at g k).from q), ap (λ (x : ℕ). κ.rank (s.label x)) e)

    -- A label is none or that of a path. Where it is none and yet a path leads to the node, that path has none as well,
    -- since nothing is worse.
    best : (v : ℕ) → v < g.nodes → Best κ g v (s.label v)
    best v h = record {
      least = λ ks q. least ks v q;
      met = λ ks q. elim (i.rooted.made v h) [
        | inl e ↦ (ks, q, laws.same _ _ (omega (arith, least ks v q, ap κ.rank e, laws.worst (path_label κ g ks))))
        | inr p ↦ p
      ];
      none = λ f. elim (i.rooted.made v h) [ inl e ↦ e | inr p ↦ absurd (f p.0 p.1) ];
    }

    -- A route's path is at least as good as the node's label, and as any path no better: so it has that label.
    exact : (v : ℕ) → v < g.nodes → (r : Route g s.parent v) → path_label κ g r.path ≡ s.label v
    exact v h r = laws.same _ _ (omega (arith, good_route v h r, least r.path v r.leads))

    charted : Charted κ g s
    charted = record { best = best; route = λ v h n. (has_route v h n, exact v h (has_route v h n)) }

module _ {L : Type 0} (κ : Kind L) (laws : Lawful κ) where
  keeps : (m : Mesh) (es : List (Event L)) (s : State L) → Reached κ (graph m) es s → Invariants κ (graph m) s
  keeps m es s r = reached_keeps κ (graph m) laws (accepted m) es s r

  best_routes : BestRoutes κ
  best_routes m es s r q = charted κ (graph m) laws (accepted m) s (keeps m es s r) q

  provisional_routes : ProvisionalRoutes κ
  provisional_routes m es s r = provisional κ (graph m) laws (accepted m) s (keeps m es s r)

  -- Both labels are the node's best, and it has one best label.
  agreement : Agreement κ
  agreement m n ds es s t same r u p q v h =
      let other : Best κ (graph m) v (t.label v) = subst (λ g. Best κ g v (t.label v)) (sym same) ((best_routes n es t u q).best v (omega (arith, h, ap (λ g. g.nodes) same))) in
      one_best κ laws (graph m) v (s.label v) (t.label v) ((best_routes m ds s r p).best v h) other

  pub routing_theorem : RoutingTheorem κ
  routing_theorem = record { best_routes = best_routes; provisional_routes = provisional_routes; agreement = agreement }
