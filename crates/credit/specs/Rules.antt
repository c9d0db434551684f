-- The rules of credit recovery: what each call does to the state, and what it answers.
use Rattle.std.specs.Prelude.{◌≡◌, ℕ, ◌+◌, false, if◌then◌else◌, replicate, Some, None, Option, nat_lt, slice_index_or, slice_set}
use Rattle.credit.specs.declared.credit.Credit.{Credit}
use Rattle.credit.specs.Holdings.{holding}
use Rattle.credit.specs.Places.{Added}

-- the exponent that a node holds; nothing for a passive node, and for one that is not there
abbrev pub held_by : Credit → ℕ → Option ℕ
held_by d node = if nat_lt node d.nodes then (slice_index_or d.holders.records node (holding None)).held else None

-- The node holds o after, and nothing else has changed.
pub record Holds (before after : Credit) (node : ℕ) (o : Option ℕ) : Type 0 where
  pub nodes : after.nodes ≡ before.nodes
  pub records : after.holders.records ≡ slice_set before.holders.records node (holding o)
  pub recovered : after.recovered ≡ before.recovered

-- Opened: the root alone holds an exponent, 0, and no place is recovered.
pub record Opened (nodes root : ℕ) (after : Credit) : Type 0 where
  pub size : after.nodes ≡ nodes
  pub records : after.holders.records ≡ slice_set (replicate 64 (holding None)) root (holding (Some 0))
  pub recovered : (k : ℕ) → slice_index_or after.recovered.taken k false ≡ false

-- Sent: the exponent that the node holds rises by one, and the mark is the new exponent.
pub record Sent (before : Credit) (node mark : ℕ) (after : Credit) : Type 0 where
  pub exponent : ℕ
  pub held : held_by before node ≡ Some exponent
  pub raised : mark ≡ exponent + 1
  pub holds : Holds before after node (Some mark)

-- what a node holds once a message has arrived: a passive node the mark, an active one what it held
abbrev pub kept : Option ℕ → ℕ → Option ℕ
kept None mark = Some mark
kept (Some e) mark = Some e

-- what it answers: a passive node nothing, an active one the mark
abbrev pub returned : Option ℕ → ℕ → Option ℕ
returned None mark = None
returned (Some e) mark = Some mark

-- Received: the node holds what it keeps, and answers what it returns.
pub record Received (before : Credit) (node mark : ℕ) (item : Option ℕ) (after : Credit) : Type 0 where
  pub answers : item ≡ returned (held_by before node) mark
  pub holds : Holds before after node (kept (held_by before node) mark)

-- Idled: the node holds nothing any more; the item is the exponent that it held.
pub record Idled (before : Credit) (node : ℕ) (item : Option ℕ) (after : Credit) : Type 0 where
  pub exponent : ℕ
  pub held : held_by before node ≡ Some exponent
  pub answers : item ≡ Some exponent
  pub holds : Holds before after node None

-- Control: the credit of the item taken joins the recovered credit; no item is answered, and nothing else has changed.
pub record Recovered (before : Credit) (taken : ℕ) (item : Option ℕ) (after : Credit) : Type 0 where
  pub answers : item ≡ None
  pub nodes : after.nodes ≡ before.nodes
  pub records : after.holders.records ≡ before.holders.records
  pub added : Added before.recovered.taken taken after.recovered.taken
