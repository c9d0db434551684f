-- What happens to one node's record, by its state and the event together.
use Rattle.std.specs.Prelude.{ℕ, ◌+◌, ◌-◌, Bool, true, false, if◌then◌else◌, not, ◌&&◌, List, Some, None, Option, ◌==◌, slice_index_or}
use Rattle.tree.specs.declared.node.Node.{Node}
use Rattle.tree.specs.declared.node.Event.{Event}
use Rattle.tree.specs.declared.node.Event.TheVariants.{Received, Idled, Control}
use Rattle.tree.specs.declared.node.Outcome.{Outcome}
use Rattle.tree.specs.declared.node.Outcome.TheVariants.{Signal, Left}

-- a node that has not been engaged yet
abbrev pub blank : Node
blank = record { active = false; engaged = false; parent = None; deficit = 0 }

-- the root of a tree that was just opened: active and engaged, without a parent
abbrev pub first : Node
first = record { active = true; engaged = true; parent = None; deficit = 0 }

-- the record of node k in a table
abbrev pub node_at : List Node → ℕ → Node
node_at rs k = slice_index_or rs k blank

-- one more message of the node is to be paid back
abbrev pub raised : Node → Node
raised r = record { active = r.active; engaged = r.engaged; parent = r.parent; deficit = r.deficit + 1 }

-- one less
abbrev pub lowered : Node → Node
lowered r = record { active = r.active; engaged = r.engaged; parent = r.parent; deficit = r.deficit - 1 }

-- passive
abbrev pub resting : Node → Node
resting r = record { active = false; engaged = r.engaged; parent = r.parent; deficit = r.deficit }

-- active
abbrev pub woken : Node → Node
woken r = record { active = true; engaged = r.engaged; parent = r.parent; deficit = r.deficit }

-- active and engaged, by a message of m
abbrev pub joining : Node → ℕ → Node
joining r m = record { active = true; engaged = true; parent = Some m; deficit = r.deficit }

-- engaged no more
abbrev pub left : Node → Node
left r = record { active = r.active; engaged = false; parent = r.parent; deficit = r.deficit }

-- Settle: an engaged, passive node with deficit 0 is engaged no more.
abbrev pub done : Node → Bool
done r = r.engaged && (not r.active && r.deficit == 0)

abbrev pub settled : Node → Node
settled r = if done r then left r else r

abbrev pub leaving : Node → Option Outcome
leaving r = if done r then Some Left else None

-- the record after an event: a message wakes an engaged node and engages any other; a node that became idle, and one
-- that got a signal, settle
abbrev pub after : Node → Event → Node
after r (Received m) = if r.engaged then woken r else joining r m
after r Idled = settled (resting r)
after r Control = settled (lowered r)

-- what comes of it, if anything: an engaged node pays a message back at once
abbrev pub outcome : Node → Event → Option Outcome
outcome r (Received m) = if r.engaged then Some (Signal m) else None
outcome r Idled = leaving (resting r)
outcome r Control = leaving (lowered r)
