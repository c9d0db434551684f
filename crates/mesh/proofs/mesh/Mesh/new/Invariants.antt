use Rattle.std.proofs.Common.{◌≡◌, take, vec_items}
use Rattle.fault.specs.Checks.{Passes}
use Rattle.mesh.specs.Checks.{root_checks}
use Rattle.mesh.proofs.Grown.{Sofar}
use Rattle.mesh.proofs.mesh.Mesh.new.Given as goal

abbrev pub invariant-loop-k : goal.invariant-loop-k
invariant-loop-k l =
    Passes (root_checks l.nodes l.root)
    × (l.mesh.nodes ≡ l.nodes)
    × (l.mesh.root ≡ l.root)
    × (vec_items l.mesh.links ≡ take l.k-counter l.links)
    × Sofar l.nodes l.links l.k-counter
