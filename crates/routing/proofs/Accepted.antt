-- The graph of a mesh keeps the rules: the root and the ends of the links are nodes.
use Rattle.std.proofs.Common.{ℕ, ◌<◌, length}
use Rattle.mesh.specs.declared.mesh.Mesh.{Mesh}
use Rattle.label.specs.Paths.{Graph, graph, link_at}

-- the rules of a mesh that the proofs of routing use
pub record Accepted (g : Graph) : Type 0 where
  pub root_in : g.root < g.nodes
  pub from_in : (k : ℕ) → k < length g.links → (link_at g k).from < g.nodes
  pub to_in : (k : ℕ) → k < length g.links → (link_at g k).to < g.nodes

pub accepted : (m : Mesh) → Accepted (graph m)
accepted m = record { root_in = m.rooted; from_in = λ k h. (m.ends k _ h).0; to_in = λ k h. (m.ends k _ h).1 }
