-- Checks that stand in an order: all of them pass, or one of them is the first that fails.
use Rattle.std.specs.Prelude.{◌≡◌, List, [], ◌∷◌, ◌⊎◌}

-- one check: what has to hold, and what a refusal by this check says
pub record Check (A : Type 0) : Type 1 where
  pub says : A
  pub holds : Type 0

abbrev pub check : {A : Type 0} → A → Type 0 → Check A
check a P = record { says = a; holds = P }

-- every check holds
abbrev pub Passes : {A : Type 0} → List (Check A) → Type 0
Passes [] = Unit {0}
Passes (c ∷ cs) = c.holds × Passes cs

-- the first check that does not hold says a
abbrev pub Fails : {A : Type 0} → List (Check A) → A → Type 0
Fails [] a = ⊥
Fails (c ∷ cs) a = ((c.holds → ⊥) × (a ≡ c.says)) ⊎ (c.holds × Fails cs a)
