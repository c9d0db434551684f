-- The record of one node.
use Rattle.std.specs.Prelude.{ℕ, Option}
use Rattle.credit.specs.declared.holders.Holder.{Holder}

-- the record of a node that holds this
abbrev pub holding : Option ℕ → Holder
holding o = record { held = o }
