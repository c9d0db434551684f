-- Two common mistakes, each refuted by a case; beside the first, the right rule in the same case.
use Rattle.std.specs.Prelude.{◌≡◌, ℕ, ◌+◌, ◌*◌, ◌<◌, ◌≤◌, List, [], ◌∷◌, length, Some}
use Rattle.std.proofs.Math.Facts.{leb_yes}
use Rattle.mesh.specs.declared.link.Link.{Link}
use Rattle.mesh.specs.Rules.{InRange, EndsDiffer, EveryLink, PairsOnce}
use Rattle.label.specs.declared.cost.Cost.{Cost}
use Rattle.label.specs.declared.width.Width.{Width}
use Rattle.label.specs.Kinds.{Kind, Lawful}
use Rattle.label.specs.Costs.{cost_of, cost_kind}
use Rattle.label.specs.Widths.{width_of, width_kind}
use Rattle.label.specs.Paths.{Graph}
use Rattle.routing.specs.States.{State, Quiet}
use Rattle.routing.specs.Protocol.{Event, Trace, Reached}
use Rattle.routing.specs.Routes.{Parents}

-- the rules of a mesh, which a value of type `Mesh` keeps, of a graph
pub record KeepsRules (g : Graph) : Type 0 where
  pub many : (1 ≤ g.nodes) × (g.nodes ≤ 64)
  pub rooted : g.root < g.nodes
  pub few : length g.links ≤ 512
  pub ranges : EveryLink (InRange g.nodes) g.links
  pub ends : EveryLink EndsDiffer g.links
  pub once : PairsOnce g.links

-- The first mistake: adopting an equal label.

-- the wrong rule of adoption
abbrev pub AtLeastAsGood : ℕ → ℕ → Type 0
AtLeastAsGood new old = new ≤ old

-- three nodes, the root 0, and the links 0 to 1 of cost 1, 1 to 2 of cost 0, 2 to 1 of cost 0
abbrev pub three_nodes : Graph
three_nodes = record {
  nodes = 3;
  root = 0;
  links =
      record { from = 0; to = 1; cost = 1; width = 1 }
      ∷ record { from = 1; to = 2; cost = 0; width = 1 }
      ∷ record { from = 2; to = 1; cost = 0; width = 1 }
      ∷ [];
}

-- The three nodes are a mesh, and under the wrong rule that many events lead to a state in which node 1 has cost 1, its parent is the link from node 2,
-- and the parent of node 2 is the link from node 1: a cycle, so that the parents of node 1 never lead to the root.
pub record CycleAfter (n : ℕ) : Type 0 where
  pub accepted : KeepsRules three_nodes
  pub events : List (Event Cost)
  pub many : length events ≡ n
  pub state : State Cost
  pub reached : Trace AtLeastAsGood cost_kind three_nodes events state
  pub labelled : (state.label 1).metric ≡ 1
  pub from_two : state.parent 1 ≡ Some 2
  pub from_one : state.parent 2 ≡ Some 1
  pub never : (ks : List ℕ) → Parents three_nodes state.parent ks 1 → ⊥

-- The three nodes are a mesh, and under the right rule that many events lead to a quiet state, in which node 1 has the same label, its parent is the link
-- from the root, and the parent of node 2 is the link from node 1.
pub record RestAfter (n : ℕ) : Type 0 where
  pub accepted : KeepsRules three_nodes
  pub events : List (Event Cost)
  pub many : length events ≡ n
  pub state : State Cost
  pub reached : Reached cost_kind three_nodes events state
  pub quiet : Quiet three_nodes state
  pub labelled : (state.label 1).metric ≡ 1
  pub from_root : state.parent 1 ≡ Some 0
  pub from_one : state.parent 2 ≡ Some 1

-- The second mistake: ordering labels by width first and then by cost.

-- labels of a width and a cost; the wider is better, and of equal widths the cheaper; each part is extended by itself
abbrev pub widest_then_cheapest : Kind (Width × Cost)
widest_then_cheapest = record {
  rank = λ a. width_kind.rank a.0 * cost_kind.span + cost_kind.rank a.1;
  span = width_kind.span * cost_kind.span;
  none = (width_kind.none, cost_kind.none);
  start = (width_kind.start, cost_kind.start);
  extend = λ a l. (width_kind.extend a.0 l, cost_kind.extend a.1 l);
}

-- width 10 at cost 2
abbrev pub wide : Width × Cost
wide = (width_of 10 (leb_yes tt), cost_of 2 (leb_yes tt))

-- width 5 at cost 1
abbrev pub cheap : Width × Cost
cheap = (width_of 5 (leb_yes tt), cost_of 1 (leb_yes tt))

-- a link of width 5
abbrev pub narrow : Link
narrow = record { from = 0; to = 1; cost = 0; width = 5 }

-- The wide label is better than the cheap one. A link of that width makes both widths the same, and then the cheap one is
-- better: the third law fails, so this is no label kind.
pub record ThirdLawFails (width : ℕ) : Type 0 where
  pub before : widest_then_cheapest.rank wide < widest_then_cheapest.rank cheap
  pub wide_after : (widest_then_cheapest.extend wide narrow).0.metric ≡ width
  pub cheap_after : (widest_then_cheapest.extend cheap narrow).0.metric ≡ width
  pub after : widest_then_cheapest.rank (widest_then_cheapest.extend cheap narrow) < widest_then_cheapest.rank (widest_then_cheapest.extend wide narrow)
  pub lawless : Lawful widest_then_cheapest → ⊥
