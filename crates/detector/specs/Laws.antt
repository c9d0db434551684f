-- The laws of a detector: what the rules of its calls do to activity, balance and what is owed, and why an announcement
-- is right and is never missing where all is over. Code that knows only these laws can rely on any detector.
use Rattle.std.specs.Prelude.{◌≡◌, ℕ, ◌+◌, ◌<◌, ◌≤◌, Bool, true, false, ◌≢◌, List, [], ◌∷◌, Some, None, Option}
use Rattle.std.specs.List.Sorted.{IsPermutation}
use Rattle.fault.specs.Checks.{Passes}
use Rattle.detector.specs.Meaning.{Meaning}
use Rattle.detector.specs.Calls.{open_checks, sent_checks, received_checks, idled_checks, control_checks}

-- the waiting items, with the one that was answered, if any
abbrev pub with_answer : Option ℕ → List ℕ → List ℕ
with_answer None items = items
with_answer (Some i) items = i ∷ items

-- how many items were answered
abbrev pub answered : Option ℕ → ℕ
answered None = 0
answered (Some i) = 1

module _ {D : Type 0} (m : Meaning D) where
  -- no node is active
  abbrev pub AllPassive : D → Type 0
  AllPassive d = (k : ℕ) → k < m.nodes d → m.active d k ≡ false

  -- Opened: only the root is active, none is spent, it is in balance with nothing waiting, and it owes its surplus.
  pub record Fresh (nodes root : ℕ) (d : D) : Type 0 where
    pub size : m.nodes d ≡ nodes
    pub root_active : m.active d root ≡ true
    pub rest_passive : (k : ℕ) → k ≢ root → m.active d k ≡ false
    pub none_spent : (k : ℕ) → m.spent d k ≡ false
    pub balanced : m.balance d [] []
    pub owed : m.owes d [] [] ≡ m.surplus

  -- no activity changes
  pub record Same (d e : D) : Type 0 where
    pub size : m.nodes e ≡ m.nodes d
    pub activity : (k : ℕ) → m.active e k ≡ m.active d k

  -- the node becomes active or passive, as `to` says, and the activity of no other node changes
  pub record Turned (d e : D) (node : ℕ) (to : Bool) : Type 0 where
    pub size : m.nodes e ≡ m.nodes d
    pub here : m.active e node ≡ to
    pub others : (k : ℕ) → k ≢ node → m.active e k ≡ m.active d k

  -- in balance with the waiting marks and items once the item answered, if any, has joined them; that item is owed no more
  pub record StillBalanced (e : D) (marks items : List ℕ) (owed : ℕ) (item : Option ℕ) : Type 0 where
    pub balanced : m.balance e marks (with_answer item items)
    pub owing : m.owes e marks (with_answer item items) + answered item ≡ owed

  -- Sent: the mark joins the marks, and one more is owed.
  pub record Sending (d e : D) (mark : ℕ) : Type 0 where
    pub same : Same d e
    pub balanced : (marks items : List ℕ) → m.balance d marks items → m.balance e (mark ∷ marks) items
    pub owing : (marks items : List ℕ) → m.balance d marks items → m.owes e (mark ∷ marks) items ≡ m.owes d marks items + 1

  -- Received: the mark leaves the marks, and the node is active.
  pub record Receiving (d e : D) (node mark : ℕ) (item : Option ℕ) : Type 0 where
    pub turned : Turned d e node true
    pub kept : (marks items : List ℕ) → m.balance d (mark ∷ marks) items → StillBalanced e marks items (m.owes d (mark ∷ marks) items) item

  -- Idled: the node is passive.
  pub record Idling (d e : D) (node : ℕ) (item : Option ℕ) : Type 0 where
    pub turned : Turned d e node false
    pub kept : (marks items : List ℕ) → m.balance d marks items → StillBalanced e marks items (m.owes d marks items) item

  -- Control: the item taken leaves the items.
  pub record Controlling (d e : D) (taken : ℕ) (item : Option ℕ) : Type 0 where
    pub same : Same d e
    pub kept : (marks items : List ℕ) → m.balance d marks (taken ∷ items) → StillBalanced e marks items (m.owes d marks (taken ∷ items)) item

  -- All is over: no node is active, nothing waits, nothing is owed.
  pub record Over (d : D) (marks items : List ℕ) : Type 0 where
    pub passive : AllPassive d
    pub no_marks : marks ≡ []
    pub no_items : items ≡ []
    pub nothing_owed : m.owes d marks items ≡ 0

  -- The laws themselves.
  pub record Lawful : Type 0 where
    -- a node that is not there is neither active nor spent
    pub absent : (d : D) (k : ℕ) → m.nodes d ≤ k → (m.active d k ≡ false) × (m.spent d k ≡ false)
    -- each call makes its change
    pub opening : (nodes root : ℕ) (d : D) → Passes (open_checks nodes root) → m.opened nodes root d → Fresh nodes root d
    pub sending : (d e : D) (node mark : ℕ) → Passes (sent_checks m d node) → m.sent d node mark e → Sending d e mark
    pub receiving : (d e : D) (node mark : ℕ) (item : Option ℕ) → Passes (received_checks m d node mark) → m.received d node mark item e → Receiving d e node mark item
    pub idling : (d e : D) (node : ℕ) (item : Option ℕ) → Passes (idled_checks m d node) → m.idled d node item e → Idling d e node item
    pub controlling : (d e : D) (taken : ℕ) (item : Option ℕ) → Passes (control_checks m d taken) → m.control d taken item e → Controlling d e taken item
    -- a mark or an item that waits is never refused
    pub mark_taken : (d : D) (mark : ℕ) (marks items : List ℕ) → m.balance d (mark ∷ marks) items → m.takes_mark d mark
    pub item_taken : (d : D) (item : ℕ) (marks items : List ℕ) → m.balance d marks (item ∷ items) → m.takes_item d item
    -- the order of the waiting marks and items does not matter
    pub any_order : (d : D) (marks items marks' items' : List ℕ) → IsPermutation marks marks' → IsPermutation items items' → m.balance d marks items → m.balance d marks' items' × (m.owes d marks' items' ≡ m.owes d marks items)
    -- in balance, announced is never too soon, and never missing where all is over
    pub never_too_soon : (d : D) (marks items : List ℕ) → m.balance d marks items → m.announced d ≡ true → Over d marks items
    pub never_missed : (d : D) → m.balance d [] [] → AllPassive d → m.announced d ≡ true

-- The answer says exactly whether all is over: yes, and then no node is active, nothing waits and nothing is owed; and
-- yes wherever no node is active and nothing waits.
pub record ExactlyOver {D : Type 0} (m : Meaning D) (d : D) (marks items : List ℕ) (answer : Bool) : Type 0 where
  pub so : answer ≡ true → Over m d marks items
  pub always : AllPassive m d → marks ≡ [] → items ≡ [] → answer ≡ true
