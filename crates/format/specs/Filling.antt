-- A row that is filled column by column.
use Rattle.std.specs.Prelude.{◌≡◌, ℕ, zero, suc, ◌-◌, ◌<◌, ◌≤◌, List, [], length, Some, None, Option, ◌≢◌, slice_index_or, slice_set}
use Rattle.fault.specs.Checks.{Passes}
use Rattle.text.specs.Lines.{spaced}
use Rattle.vocab.specs.declared.kinds.Setting.{Setting}
use Rattle.vocab.specs.declared.kinds.Step.{Step}
use Rattle.format.specs.declared.rows.LinkRow.{LinkRow}
use Rattle.format.specs.Columns.{arranged}
use Rattle.format.specs.Verdict.{field_checks}

-- the text is in column k now, and in range; the other columns are as they were
pub record PutAt (k : ℕ) (t : List ℕ) (old new : List (List ℕ)) (fitted fits : ℕ → Type 0) : Type 0 where
  pub is : new ≡ slice_set old k t
  pub here : fits k
  pub others : (j : ℕ) → (j ≢ k) → fitted j → fits j

-- the line writes these columns in the order o; each holds what it takes, and is in range
pub record Filled (takes : ℕ → List ℕ → Type 0) (o line : List ℕ) (values : List (List ℕ)) (fits : ℕ → Type 0) : Type 0 where
  pub is : line ≡ spaced (arranged o values)
  pub passes : Passes (field_checks takes line 0 o)
  pub fit : (k : ℕ) → k < length o → fits k

-- what is in the columns of the rows is in range
abbrev pub setting_fits : Setting → ℕ → Type 0
setting_fits h zero = (1 ≤ h.nodes) × (h.nodes ≤ 64)
setting_fits h (suc zero) = h.root ≤ 63
setting_fits h (suc (suc k)) = Unit {0}

abbrev pub link_fits : LinkRow → ℕ → Type 0
link_fits r zero = r.link.from ≤ r.nodes - 1
link_fits r (suc zero) = r.link.to ≤ r.nodes - 1
link_fits r (suc (suc zero)) = r.link.cost ≤ 65535
link_fits r (suc (suc (suc k))) = (1 ≤ r.link.width) × (r.link.width ≤ 65535)

abbrev pub step_fits : Step → ℕ → Type 0
step_fits s zero = Unit {0}
step_fits s (suc k) = s.pick ≤ 65535

-- the place of a word among others
abbrev pub Found : List (List ℕ) → List ℕ → Option ℕ → Type 0
Found words t None = (k : ℕ) → k < length words → slice_index_or words k [] ≢ t
Found words t (Some k) = (k < length words) × (slice_index_or words k [] ≡ t)

-- words without repeats
abbrev pub Apart : List (List ℕ) → Type 0
Apart ws = (i j : ℕ) → i < length ws → j < length ws → slice_index_or ws i [] ≡ slice_index_or ws j [] → i ≡ j
