-- What a termination detector means: the state that it shows, its balance with what is on its way, and the rule of
-- each of its calls. Marks and control items are numbers.
use Rattle.std.specs.Prelude.{ℕ, Bool, List, Option}

pub record Meaning (D : Type 0) : Type 1 where
  -- how many nodes it has; which of them are active, and which can send no more
  pub nodes : D → ℕ
  pub active : D → ℕ → Bool
  pub spent : D → ℕ → Bool
  -- whether it has announced that all is over
  pub announced : D → Bool
  -- how many more control items than messages there are in a whole computation
  pub surplus : ℕ
  -- in balance with the marks that wait and the control items that wait, in any order
  pub balance : D → List ℕ → List ℕ → Type 0
  -- how many control items it will still answer, beside these waiting marks and items
  pub owes : D → List ℕ → List ℕ → ℕ
  -- the marks and the items that it takes; others are refused
  pub takes_mark : D → ℕ → Type 0
  pub takes_item : D → ℕ → Type 0
  -- the rule of each call: the state before, what the call is given, what it answers, and the state after
  pub opened : (nodes root : ℕ) (after : D) → Type 0
  pub sent : (before : D) (node mark : ℕ) (after : D) → Type 0
  pub received : (before : D) (node mark : ℕ) (item : Option ℕ) (after : D) → Type 0
  pub idled : (before : D) (node : ℕ) (item : Option ℕ) (after : D) → Type 0
  pub control : (before : D) (taken : ℕ) (item : Option ℕ) (after : D) → Type 0
