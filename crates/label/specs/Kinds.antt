-- What a label kind is, and its four laws.
use Rattle.std.specs.Prelude.{◌≡◌, ℕ, ◌<◌, ◌≤◌}
use Rattle.mesh.specs.declared.link.Link.{Link}

-- Labels, of which the better has the smaller rank; one called none, one called start; and what a link makes of a label.
pub record Kind (L : Type 0) : Type 0 where
  pub rank : L → ℕ
  pub span : ℕ
  pub none : L
  pub start : L
  pub extend : L → Link → L

pub record Lawful {L : Type 0} (κ : Kind L) : Type 0 where
  -- 1: ranks are below the span, and equal ranks mean the same label
  pub below : (a : L) → κ.rank a < κ.span
  pub same : (a b : L) → κ.rank a ≡ κ.rank b → a ≡ b
  -- 2: none has the greatest rank
  pub worst : (a : L) → κ.rank a ≤ κ.rank κ.none
  -- 3: if a is at least as good as b, so are their extensions by the same link
  pub keeps : (a b : L) (l : Link) → κ.rank a ≤ κ.rank b → κ.rank (κ.extend a l) ≤ κ.rank (κ.extend b l)
  -- 4: an extension is never better than the label extended
  pub never : (a : L) (l : Link) → κ.rank a ≤ κ.rank (κ.extend a l)
