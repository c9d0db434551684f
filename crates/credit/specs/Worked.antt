-- Worked cases of the rules, of any state with that exponent or with exactly those recovered places; and what the value is.
use Rattle.std.specs.Prelude.{◌≡◌, ℕ, ◌<◌, ◌≤◌, Bool, true, false, ◌||◌, List, [], ◌∷◌, Some, Option, ◌==◌, slice_index_or}
use Rattle.fault.specs.Checks.{Passes, Fails}
use Rattle.detector.specs.Calls.{sent_checks, control_checks}
use Rattle.credit.specs.declared.credit.Credit.{Credit}
use Rattle.credit.specs.Places.{value, credit_of, total}
use Rattle.credit.specs.Rules.{held_by}
use Rattle.credit.specs.Meaning.{credit_meaning}

-- whether a place is one of these
abbrev pub among : List ℕ → ℕ → Bool
among [] k = false
among (p ∷ ps) k = k == p || among ps k

-- exactly these places are recovered
abbrev pub Exactly : Credit → List ℕ → Type 0
Exactly d places = (k : ℕ) → slice_index_or d.recovered.taken k false ≡ among places k

-- The worked cases.
pub record Worked : Type 0 where
  -- the value is the credit of all recovered places together
  pub summed : (d : Credit) → value d.recovered.taken ≡ total d.recovered.taken
  -- place e alone is worth the credit of exponent e
  pub worth : (d : Credit) (e : ℕ) → e ≤ 1000 → Exactly d (e ∷ []) → value d.recovered.taken ≡ credit_of e
  -- place 2, and the item 2 arrives: place 1
  pub carried : (d : Credit) → Exactly d (2 ∷ []) →
      Passes (control_checks credit_meaning d 2) × ((item : Option ℕ) (e : Credit) → credit_meaning.control d 2 item e → Exactly e (1 ∷ []))
  -- places 1 to 4, and the item 4 arrives: announced
  pub announced : (d : Credit) → Exactly d (1 ∷ 2 ∷ 3 ∷ 4 ∷ []) →
      Passes (control_checks credit_meaning d 4) × ((item : Option ℕ) (e : Credit) → credit_meaning.control d 4 item e → credit_meaning.announced e ≡ true)
  -- place 1, and the item 0 arrives: fault 24, since it would be more than one
  pub above_one : (d : Credit) → Exactly d (1 ∷ []) → Fails (control_checks credit_meaning d 0) 24
  -- a node with exponent 999 sends: the mark is 1,000
  pub last_sent : (d : Credit) (node : ℕ) → node < d.nodes → held_by d node ≡ Some 999 →
      Passes (sent_checks credit_meaning d node) × ((mark : ℕ) (e : Credit) → credit_meaning.sent d node mark e → mark ≡ 1000)
  -- with exponent 1,000 it can send no more: fault 25
  pub all_sent : (d : Credit) (node : ℕ) → node < d.nodes → held_by d node ≡ Some 1000 → Fails (sent_checks credit_meaning d node) 25
