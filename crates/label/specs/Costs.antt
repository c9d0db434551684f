-- The kind cost.
use Rattle.std.specs.Prelude.{ℕ, ◌+◌, ◌≤◌, min, List, Option, Some, None, nat_eq, if◌then◌else◌}
use Rattle.std.proofs.Common.{zero-le}
use Rattle.std.proofs.Math.Nat.{le_refl, min-le_right}
use Rattle.label.specs.Kinds.{Kind}
use Rattle.label.specs.Texts.{value_text}
use Rattle.label.specs.declared.cost.Cost.{Cost}

-- the label of a metric; the greatest metric is none
abbrev pub cost_of : (n : ℕ) → n ≤ 4294967295 → Cost
cost_of n h = record { metric = n; fits = h }

-- extending adds the link's cost, and gives none above the greatest cost
abbrev pub cost_kind : Kind Cost
cost_kind = record {
  rank = λ c. c.metric;
  span = 4294967296;
  none = cost_of 4294967295 (le_refl 4294967295);
  start = cost_of 0 zero-le;
  extend = λ c l. cost_of (min (c.metric + l.cost) 4294967295) (min-le_right (c.metric + l.cost) 4294967295);
}

-- the cost; nothing for none
abbrev pub cost_value : Cost → Option ℕ
cost_value c = if nat_eq c.metric 4294967295 then None else Some c.metric

-- how a label is written
abbrev pub cost_text : Cost → List ℕ
cost_text c = value_text (cost_value c)
