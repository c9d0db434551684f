-- What a run has at one time, as far as its routes go: the nodes and the waiting messages.
use Rattle.std.specs.Prelude.{◌≡◌, ℕ, ◌<◌, Bool, true, false, ◌≢◌, List, [], length, None, Option}
use Rattle.label.specs.Kinds.{Kind}
use Rattle.label.specs.Paths.{Graph}

-- a message: the number of the link that it goes along, and the label that it carries
pub record Message (L : Type 0) : Type 0 where
  pub along : ℕ
  pub carried : L

-- Of each node: its label; the number of its parent link, the link that brought the label; its next link, the place in
-- the list of links from which it has still to send; whether it is active. And the waiting messages.
pub record State (L : Type 0) : Type 0 where
  pub label : ℕ → L
  pub parent : ℕ → Option ℕ
  pub next : ℕ → ℕ
  pub active : ℕ → Bool
  pub waiting : List (Message L)

-- An opened state: the root has the label start, all its links still to send on, and is active; every other node has
-- the label none, nothing to send, and is passive; no node has a parent; nothing waits.
pub record Opened {L : Type 0} (κ : Kind L) (g : Graph) (s : State L) : Type 0 where
  pub root_label : s.label g.root ≡ κ.start
  pub root_next : s.next g.root ≡ 0
  pub root_active : s.active g.root ≡ true
  pub label : (v : ℕ) → v < g.nodes → v ≢ g.root → s.label v ≡ κ.none
  pub next : (v : ℕ) → v < g.nodes → v ≢ g.root → s.next v ≡ length g.links
  pub active : (v : ℕ) → v < g.nodes → v ≢ g.root → s.active v ≡ false
  pub parent : (v : ℕ) → v < g.nodes → s.parent v ≡ None
  pub waiting : s.waiting ≡ []

-- A quiet state: no node is active and no message waits.
pub record Quiet {L : Type 0} (g : Graph) (s : State L) : Type 0 where
  pub passive : (v : ℕ) → v < g.nodes → s.active v ≡ false
  pub empty : s.waiting ≡ []
