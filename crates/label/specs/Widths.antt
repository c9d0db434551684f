-- The kind width.
use Rattle.std.specs.Prelude.{ℕ, ◌-◌, ◌≤◌, min, List, Option, Some, None, nat_eq, if◌then◌else◌}
use Rattle.std.proofs.Common.{zero-le}
use Rattle.std.proofs.Math.Nat.{le_refl, le_trans, min-le_left}
use Rattle.label.specs.Kinds.{Kind}
use Rattle.label.specs.Texts.{value_text}
use Rattle.label.specs.declared.width.Width.{Width}

-- the label of a width; no width, 0, is none
abbrev pub width_of : (n : ℕ) → n ≤ 65535 → Width
width_of n h = record { metric = n; fits = h }

-- extending takes the lesser of the label and the link's width
abbrev pub width_kind : Kind Width
width_kind = record {
  rank = λ w. 65535 - w.metric;
  span = 65536;
  none = width_of 0 zero-le;
  start = width_of 65535 (le_refl 65535);
  extend = λ w l. width_of (min w.metric l.width) (le_trans (min-le_left w.metric l.width) w.fits);
}

-- the width; nothing for none
abbrev pub width_value : Width → Option ℕ
width_value w = if nat_eq w.metric 0 then None else Some w.metric

-- how a label is written
abbrev pub width_text : Width → List ℕ
width_text w = value_text (width_value w)
