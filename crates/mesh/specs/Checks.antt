-- The checks of a mesh's parts, in their order, and the numbers of the faults.
use Rattle.std.specs.Prelude.{ℕ, ◌<◌, ◌≤◌, List, [], ◌∷◌, ◌++◌, length, codes, decimal}
use Rattle.fault.specs.Checks.{Check, check}
use Rattle.mesh.specs.declared.link.Link.{Link}
use Rattle.mesh.specs.declared.link.LinkFault.{LinkFault}
use Rattle.mesh.specs.declared.link.LinkFault.TheVariants.{TooMany, OutOfRange, SameEnds, PairRepeated}
use Rattle.mesh.specs.declared.link.MeshFault.{MeshFault}
use Rattle.mesh.specs.declared.link.MeshFault.TheVariants.{Nodes, Root, BadLink}
use Rattle.mesh.specs.Rules.{InRange, EndsDiffer, Joins}

abbrev pub link_fault_number : LinkFault → ℕ
link_fault_number TooMany = 7
link_fault_number OutOfRange = 4
link_fault_number SameEnds = 5
link_fault_number PairRepeated = 6

-- how a fault is told in words
abbrev pub link_fault_text : LinkFault → List ℕ
link_fault_text TooMany = codes "the mesh has 512 links already"
link_fault_text OutOfRange = codes "an end is no node, or the width is 0"
link_fault_text SameEnds = codes "both ends are the same node"
link_fault_text PairRepeated = codes "a link with these ends is there already"

abbrev pub mesh_fault_number : MeshFault → ℕ
mesh_fault_number Nodes = 4
mesh_fault_number Root = 4
mesh_fault_number (BadLink k e) = link_fault_number e

abbrev pub mesh_fault_text : MeshFault → List ℕ
mesh_fault_text Nodes = codes "the number of nodes is not from 1 to 64"
mesh_fault_text Root = codes "the root is no node"
mesh_fault_text (BadLink k e) = codes "link " ++ decimal k ++ codes ": " ++ link_fault_text e

-- the checks of the link l, which is to follow the links ls
abbrev pub link_checks : ℕ → List Link → Link → List (Check LinkFault)
link_checks nodes ls l =
    check TooMany (length ls < 512)
    ∷ check OutOfRange (InRange nodes l)
    ∷ check SameEnds (EndsDiffer l)
    ∷ check PairRepeated (Joins ls l.from l.to → ⊥)
    ∷ []

-- the checks of the number of nodes and the root
abbrev pub root_checks : ℕ → ℕ → List (Check MeshFault)
root_checks nodes root = check Nodes ((1 ≤ nodes) × (nodes ≤ 64)) ∷ check Root (root < nodes) ∷ []

-- a link's checks as checks of the mesh, by the link's number
abbrev pub numbered : ℕ → List (Check LinkFault) → List (Check MeshFault)
numbered k [] = []
numbered k (c ∷ cs) = check (BadLink k c.says) c.holds ∷ numbered k cs

-- the checks of the links ls one by one, which are to follow the links before
abbrev pub links_checks : ℕ → List Link → List Link → List (Check MeshFault)
links_checks nodes before [] = []
links_checks nodes before (l ∷ ls) = numbered (length before) (link_checks nodes before l) ++ links_checks nodes (before ++ l ∷ []) ls

-- the checks of a mesh's parts
abbrev pub mesh_checks : ℕ → ℕ → List Link → List (Check MeshFault)
mesh_checks nodes root ls = root_checks nodes root ++ links_checks nodes [] ls
