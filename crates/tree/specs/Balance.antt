-- What the tree means as a detector.
use Rattle.std.specs.Prelude.{◌≡◌, ℕ, ◌+◌, ◌<◌, ◌≤◌, Bool, true, false, if◌then◌else◌, not, ◌&&◌, List, length, Some, None, sum_by, Option, ◌==◌, nat_lt}
use Rattle.detector.specs.Meaning.{Meaning}
use Rattle.tree.specs.declared.node.Node.{Node}
use Rattle.tree.specs.declared.node.Event.TheVariants.{Received, Idled, Control}
use Rattle.tree.specs.declared.engagement.Tree.{Tree}
use Rattle.tree.specs.Rules.{node_at}
use Rattle.tree.specs.Steps.{at, HasDeficit, Opened, Sent, Happens}

-- 1 where x is n, else 0
abbrev pub hit : ℕ → ℕ → ℕ
hit n x = if x == n then 1 else 0

-- how often n stands in a list
abbrev pub hits : ℕ → List ℕ → ℕ
hits n xs = sum_by (hit n) xs

-- the parent of a node that is in the tree
abbrev pub tree_parent : Node → Option ℕ
tree_parent r = if r.engaged then r.parent else None

-- 1 where the parent is n, else 0
abbrev pub parent_hit : ℕ → Option ℕ → ℕ
parent_hit n None = 0
parent_hit n (Some p) = hit n p

-- 1 where there is a parent, else 0
abbrev pub some_hit : Option ℕ → ℕ
some_hit None = 0
some_hit (Some p) = 1

-- 1 where the record is in the tree and has the parent n, else 0
abbrev pub child : ℕ → Node → ℕ
child n r = parent_hit n (tree_parent r)

-- how many nodes in the tree have the parent n
abbrev pub children : ℕ → List Node → ℕ
children n rs = sum_by (child n) rs

-- 1 where the record is in the tree and has a parent, else 0
abbrev pub has_parent : Node → ℕ
has_parent r = some_hit (tree_parent r)

-- how many nodes in the tree have a parent
abbrev pub with_parent : List Node → ℕ
with_parent rs = sum_by has_parent rs

-- Node k's record r has its place in the tree: a node outside the tree is passive and has deficit 0; ranks fall from a
-- node to its parent; only the root has no parent; numbers from `nodes` on are no nodes; and the tree has announced
-- exactly if the root is outside.
pub record Fits (nodes root : ℕ) (announced : Bool) (rank : ℕ → ℕ) (k : ℕ) (r : Node) : Type 0 where
  pub outside : r.engaged ≡ false → (r.active ≡ false) × (r.deficit ≡ 0)
  pub above : (p : ℕ) → tree_parent r ≡ Some p → rank p < rank k
  pub parentless : r.engaged ≡ true → tree_parent r ≡ None → k ≡ root
  pub top : k ≡ root → tree_parent r ≡ None
  pub absent : nodes ≤ k → r.engaged ≡ false
  pub announces : k ≡ root → announced ≡ not r.engaged

-- The records form a tree by some rank, and each node's deficit counts the waiting marks and signals that name it and its
-- children. A node that could leave may still be in: this part of the balance stands apart, since an event keeps it and
-- breaks the other at one node, until that node has settled.
pub record Loose (nodes root : ℕ) (announced : Bool) (rs : List Node) (marks items : List ℕ) : Type 0 where
  pub rank : ℕ → ℕ
  pub fits : (k : ℕ) → Fits nodes root announced rank k (node_at rs k)
  pub deficits : (n : ℕ) → (node_at rs n).deficit ≡ hits n marks + hits n items + children n rs

-- an engaged, passive node waits for a signal
abbrev pub Waits : Node → Type 0
Waits r = r.engaged ≡ true → r.active ≡ false → 0 < r.deficit

-- In balance: a tree that no node could leave.
pub record Balanced (nodes root : ℕ) (announced : Bool) (rs : List Node) (marks items : List ℕ) : Type 0 where
  pub loose : Loose nodes root announced rs marks items
  pub waits : (k : ℕ) → Waits (node_at rs k)

-- a signal is owed for each waiting mark, and by each node in the tree that has a parent
abbrev pub owed : List Node → List ℕ → ℕ
owed rs marks = length marks + with_parent rs

-- What the tree means as a detector: what it shows, its balance, and the rules of its calls.
abbrev pub tree_meaning : Meaning Tree
tree_meaning = record {
  nodes = λ t. t.nodes;
  active = λ t k. nat_lt k t.nodes && (at t k).active;
  spent = λ t k. nat_lt k t.nodes && ((at t k).deficit == 65535);
  announced = λ t. t.announced;
  surplus = 0;
  balance = λ t. Balanced t.nodes t.root t.announced t.table.records;
  owes = λ t marks items. owed t.table.records marks;
  takes_mark = HasDeficit;
  takes_item = HasDeficit;
  opened = Opened;
  sent = Sent;
  received = λ t i m item u. Happens t i (Received m) item u;
  idled = λ t i item u. Happens t i Idled item u;
  control = λ t i item u. Happens t i Control item u;
}
