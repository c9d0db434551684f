-- The protocol as a relation between states: each step is named by an event, and a list of events leads from an opened
-- state to the states that it reaches. Which node works and which message is taken next is left open.
use Rattle.std.specs.Prelude.{◌≡◌, ℕ, suc, ◌<◌, ◌≤◌, true, false, ◌≢◌, List, [], ◌∷◌, ◌++◌, length, Some}
use Rattle.label.specs.Kinds.{Kind}
use Rattle.label.specs.Paths.{Graph, link_at}
use Rattle.routing.specs.States.{State, Opened}

-- What one call did. `adopts k l`, `declines k l`: a message with the label l came along link k, and the node at its end
-- adopted l, or declined it. `sends v k l`: work at node v sent l on link k. `idles v`: work at v found no link to
-- send on. `stays`: the call changed nothing of the state, as one to the termination detector, or one that was refused.
pub data Event (L : Type 0) : Type 0 where
  adopts : ℕ → L → Event L
  declines : ℕ → L → Event L
  sends : ℕ → ℕ → L → Event L
  idles : ℕ → Event L
  stays : Event L

-- ys is xs with one x more, at some place
pub record OneMore {A : Type 0} (x : A) (xs ys : List A) : Type 0 where
  pub front : List A
  pub back : List A
  pub without : xs ≡ front ++ back
  pub with : ys ≡ front ++ (x ∷ back)

-- every node keeps its label and its parent
pub record LabelsKept {L : Type 0} (s t : State L) : Type 0 where
  pub label : (w : ℕ) → t.label w ≡ s.label w
  pub parent : (w : ℕ) → t.parent w ≡ s.parent w

-- node w is as before
pub record NodeKept {L : Type 0} (s t : State L) (w : ℕ) : Type 0 where
  pub label : t.label w ≡ s.label w
  pub parent : t.parent w ≡ s.parent w
  pub next : t.next w ≡ s.next w
  pub active : t.active w ≡ s.active w

-- the rule of adoption: a label is adopted over another exactly if its rank is smaller
abbrev pub Better : ℕ → ℕ → Type 0
Better new old = new < old

-- What a delivered message does, under any rule of adoption `Wins new old` on ranks.
module _ (Wins : ℕ → ℕ → Type 0) {L : Type 0} (κ : Kind L) (g : Graph) where
  -- A waiting message with the label l along link k is taken; l wins over the label of the node at the link's end. That
  -- node has the label l now and k as its parent link, has all its links still to send on, and is active.
  pub record Adopted (k : ℕ) (l : L) (s t : State L) : Type 0 where
    pub taken : OneMore (record { along = k; carried = l }) t.waiting s.waiting
    pub wins : Wins (κ.rank l) (κ.rank (s.label (link_at g k).to))
    pub label : t.label (link_at g k).to ≡ l
    pub parent : t.parent (link_at g k).to ≡ Some k
    pub next : t.next (link_at g k).to ≡ 0
    pub active : t.active (link_at g k).to ≡ true
    pub others : (w : ℕ) → w ≢ (link_at g k).to → NodeKept s t w

  -- A waiting message with the label l along link k is taken; l does not win over the label of the node at the link's
  -- end. That node is active now, and nothing else changes.
  pub record Declined (k : ℕ) (l : L) (s t : State L) : Type 0 where
    pub taken : OneMore (record { along = k; carried = l }) t.waiting s.waiting
    pub loses : Wins (κ.rank l) (κ.rank (s.label (link_at g k).to)) → ⊥
    pub steady : LabelsKept s t
    pub next : (w : ℕ) → t.next w ≡ s.next w
    pub active : t.active (link_at g k).to ≡ true
    pub others : (w : ℕ) → w ≢ (link_at g k).to → t.active w ≡ s.active w

-- Work at an active node v, where k is the first link from the node's next link on that leaves it: v's label, extended
-- by k, is sent on k, and the next link is one past k.
pub record Sent {L : Type 0} (κ : Kind L) (g : Graph) (v k : ℕ) (l : L) (s t : State L) : Type 0 where
  pub was_active : s.active v ≡ true
  pub onward : s.next v ≤ k
  pub real : k < length g.links
  pub leaves : (link_at g k).from ≡ v
  pub first : (j : ℕ) → s.next v ≤ j → j < k → (link_at g j).from ≢ v
  pub extends : l ≡ κ.extend (s.label v) (link_at g k)
  pub put : OneMore (record { along = k; carried = l }) s.waiting t.waiting
  pub steady : LabelsKept s t
  pub next : t.next v ≡ suc k
  pub active : (w : ℕ) → t.active w ≡ s.active w
  pub others : (w : ℕ) → w ≢ v → t.next w ≡ s.next w

-- Work at an active node v, where no link from the node's next link on leaves it: the next link is the number of links,
-- and v is passive.
pub record Idled {L : Type 0} (g : Graph) (v : ℕ) (s t : State L) : Type 0 where
  pub was_active : s.active v ≡ true
  pub done : (j : ℕ) → s.next v ≤ j → j < length g.links → (link_at g j).from ≢ v
  pub steady : LabelsKept s t
  pub next : t.next v ≡ length g.links
  pub active : t.active v ≡ false
  pub waiting : t.waiting ≡ s.waiting
  pub others : (w : ℕ) → w ≢ v → (t.next w ≡ s.next w) × (t.active w ≡ s.active w)

-- nothing changes
pub record AllKept {L : Type 0} (s t : State L) : Type 0 where
  pub nodes : (w : ℕ) → NodeKept s t w
  pub waiting : t.waiting ≡ s.waiting

module _ (Wins : ℕ → ℕ → Type 0) {L : Type 0} (κ : Kind L) (g : Graph) where
  -- the event leads from s to t, under a rule of adoption
  abbrev pub Step : State L → Event L → State L → Type 0
  Step s (adopts k l) t = Adopted Wins κ g k l s t
  Step s (declines k l) t = Declined Wins κ g k l s t
  Step s (sends v k l) t = Sent κ g v k l s t
  Step s (idles v) t = Idled g v s t
  Step s stays t = AllKept s t

  -- the events, the newest first, lead from some opened state to s, under a rule of adoption
  abbrev pub Trace : List (Event L) → State L → Type 0
  Trace [] s = Opened κ g s
  Trace (e ∷ es) t = (s : State L) × Trace es s × Step s e t

-- The protocol: the rule of adoption is `Better`.
module _ {L : Type 0} (κ : Kind L) (g : Graph) where
  -- the event leads from one state to the next
  abbrev pub Makes : State L → Event L → State L → Type 0
  Makes = Step Better κ g

  -- the events, the newest first, lead from an opened state to this one
  abbrev pub Reached : List (Event L) → State L → Type 0
  Reached = Trace Better κ g
