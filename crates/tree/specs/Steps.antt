-- The rules of the tree's calls: the tree before, and the tree after.
use Rattle.std.specs.Prelude.{◌≡◌, ℕ, ◌<◌, Bool, true, false, if◌then◌else◌, replicate, Some, None, Option, ◌==◌, slice_set}
use Rattle.tree.specs.declared.node.Node.{Node}
use Rattle.tree.specs.declared.node.Event.{Event}
use Rattle.tree.specs.declared.node.Outcome.{Outcome}
use Rattle.tree.specs.declared.node.Outcome.TheVariants.{Signal, Left}
use Rattle.tree.specs.declared.engagement.Tree.{Tree}
use Rattle.tree.specs.Rules.{blank, first, node_at, raised, after, outcome}

-- the record of node k
abbrev pub at : Tree → ℕ → Node
at t k = node_at t.table.records k

-- a node that is there and has a deficit: some of its messages are not paid back
abbrev pub HasDeficit : Tree → ℕ → Type 0
HasDeficit t k = (k < t.nodes) × (0 < (at t k).deficit)

-- u is t but for the record of node i, and whether it has announced
pub record Becomes (t u : Tree) (i : ℕ) (r : Node) (announced : Bool) : Type 0 where
  pub nodes : u.nodes ≡ t.nodes
  pub root : u.root ≡ t.root
  pub announces : u.announced ≡ announced
  pub records : u.table.records ≡ slice_set t.table.records i r

-- Opened: the root's record is that of a root, all others are blank, and nothing is announced.
pub record Opened (nodes root : ℕ) (t : Tree) : Type 0 where
  pub size : t.nodes ≡ nodes
  pub top : t.root ≡ root
  pub silent : t.announced ≡ false
  pub records : t.table.records ≡ slice_set (replicate 64 blank) root first

-- Sent: the sender's deficit rises by one, and the mark is its number.
pub record Sent (t : Tree) (i mark : ℕ) (u : Tree) : Type 0 where
  pub signed : mark ≡ i
  pub state : Becomes t u i (raised (at t i)) t.announced

-- the signal that comes of an outcome at a node with that parent: the root, when it leaves, sends none
abbrev pub signal_of : Bool → Option ℕ → Option Outcome → Option ℕ
signal_of is_root parent None = None
signal_of is_root parent (Some (Signal m)) = Some m
signal_of is_root parent (Some Left) = if is_root then None else parent

-- announced, once the root has left
abbrev pub announced_by : Bool → Bool → Option Outcome → Bool
announced_by is_root was None = was
announced_by is_root was (Some (Signal m)) = was
announced_by is_root was (Some Left) = if is_root then true else was

-- An event happens at node i: its record changes as the rules say; when the root leaves the tree, it announces, and when
-- any other node does, it signals its parent.
pub record Happens (t : Tree) (i : ℕ) (e : Event) (item : Option ℕ) (u : Tree) : Type 0 where
  pub signal : item ≡ signal_of (i == t.root) (at t i).parent (outcome (at t i) e)
  pub state : Becomes t u i (after (at t i) e) (announced_by (i == t.root) t.announced (outcome (at t i) e))
