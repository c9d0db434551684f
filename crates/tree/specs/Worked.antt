-- Worked cases at the limit of a node's deficit, for any tree.
use Rattle.std.specs.Prelude.{◌≡◌, ℕ, ◌<◌, true}
use Rattle.fault.specs.Checks.{Passes, Fails}
use Rattle.detector.specs.Calls.{sent_checks}
use Rattle.tree.specs.declared.engagement.Tree.{Tree}
use Rattle.tree.specs.Steps.{at}
use Rattle.tree.specs.Balance.{tree_meaning}

pub record Worked : Type 0 where
  -- an active node with deficit 65,534 sends: its deficit is 65,535
  pub last_sent : (t : Tree) (i : ℕ) → i < t.nodes → (at t i).active ≡ true → (at t i).deficit ≡ 65534 →
      Passes (sent_checks tree_meaning t i) × ((mark : ℕ) (u : Tree) → tree_meaning.sent t i mark u → (mark ≡ i) × ((at u i).deficit ≡ 65535))
  -- with deficit 65,535 it can send no more: fault 25
  pub all_sent : (t : Tree) (i : ℕ) → i < t.nodes → (at t i).active ≡ true → (at t i).deficit ≡ 65535 → Fails (sent_checks tree_meaning t i) 25
