-- What each call of a detector answers: accepted exactly if its checks pass, by the detector's rule; refused exactly by
-- the first check that fails, and then nothing changes.
use Rattle.std.specs.Prelude.{◌≡◌, ℕ, ◌<◌, ◌≤◌, true, false, List, [], ◌∷◌, Some, Ok, Err, Option, Result}
use Rattle.fault.specs.Checks.{Check, check, Passes, Fails}
use Rattle.detector.specs.declared.faults.DetectorFault.{DetectorFault}
use Rattle.detector.specs.Faults.{detector_fault_number}
use Rattle.detector.specs.declared.told.Call.{Call}
use Rattle.detector.specs.declared.told.Call.TheVariants.{Sent, Received, Idled, Control}
use Rattle.detector.specs.Meaning.{Meaning}

-- a detector has 1 to 64 nodes, the root among them
abbrev pub open_checks : ℕ → ℕ → List (Check ℕ)
open_checks nodes root = check 20 ((nodes ≤ 64) × (root < nodes)) ∷ []

-- The checks of the other calls, in their order.
module _ {D : Type 0} (m : Meaning D) where
  -- the sender is a node, is active, and can still send
  abbrev pub sent_checks : D → ℕ → List (Check ℕ)
  sent_checks d node = check 21 (node < m.nodes d) ∷ check 22 (m.active d node ≡ true) ∷ check 25 (m.spent d node ≡ false) ∷ []

  -- the receiver is a node, and the mark may be on its way
  abbrev pub received_checks : D → ℕ → ℕ → List (Check ℕ)
  received_checks d node mark = check 21 (node < m.nodes d) ∷ check 23 (m.takes_mark d mark) ∷ []

  -- the node is there, and is active
  abbrev pub idled_checks : D → ℕ → List (Check ℕ)
  idled_checks d node = check 21 (node < m.nodes d) ∷ check 22 (m.active d node ≡ true) ∷ []

  -- the item may be on its way
  abbrev pub control_checks : D → ℕ → List (Check ℕ)
  control_checks d item = check 24 (m.takes_item d item) ∷ []

-- the answer of a call with these checks and this rule, which leads from one state to another
abbrev pub Answers : {A D : Type 0} → List (Check ℕ) → D → (A → D → Type 0) → Result A DetectorFault → D → Type 0
Answers checks before rule (Ok a) after = Passes checks × rule a after
Answers checks before rule (Err f) after = Fails checks (detector_fault_number f) × (after ≡ before)

-- the answer of checks alone
abbrev pub Checked : List (Check ℕ) → Result (Unit {0}) DetectorFault → Type 0
Checked checks (Ok u) = Passes checks
Checked checks (Err f) = Fails checks (detector_fault_number f)

-- the answer to whether a detector can have that many nodes with that root
abbrev pub SizedFor : ℕ → ℕ → Result (Unit {0}) DetectorFault → Type 0
SizedFor nodes root = Checked (open_checks nodes root)

-- the answer to whether a detector of that many nodes has this one
abbrev pub IsThere : ℕ → ℕ → Result (Unit {0}) DetectorFault → Type 0
IsThere nodes node = Checked (check 21 (node < nodes) ∷ [])

-- the answer of the call that makes a detector
abbrev pub Opens : {D : Type 0} → Meaning D → ℕ → ℕ → Result D DetectorFault → Type 0
Opens m nodes root (Ok d) = Passes (open_checks nodes root) × m.opened nodes root d
Opens m nodes root (Err f) = Fails (open_checks nodes root) (detector_fault_number f)

-- the answers of the other calls: their checks, and the detector's rule
abbrev pub Sends : {D : Type 0} → Meaning D → D → ℕ → Result ℕ DetectorFault → D → Type 0
Sends m d node = Answers (sent_checks m d node) d (m.sent d node)

abbrev pub Receives : {D : Type 0} → Meaning D → D → ℕ → ℕ → Result (Option ℕ) DetectorFault → D → Type 0
Receives m d node mark = Answers (received_checks m d node mark) d (m.received d node mark)

abbrev pub Idles : {D : Type 0} → Meaning D → D → ℕ → Result (Option ℕ) DetectorFault → D → Type 0
Idles m d node = Answers (idled_checks m d node) d (m.idled d node)

abbrev pub Controls : {D : Type 0} → Meaning D → D → ℕ → Result (Option ℕ) DetectorFault → D → Type 0
Controls m d item = Answers (control_checks m d item) d (m.control d item)

-- the answer of any call, of which sent answers a mark
abbrev pub Makes : {D : Type 0} → Meaning D → D → Call → Result (Option ℕ) DetectorFault → D → Type 0
Makes m d (Sent node) = Answers (sent_checks m d node) d (λ a e. (mark : ℕ) × (a ≡ Some mark) × m.sent d node mark e)
Makes m d (Received node mark) = Receives m d node mark
Makes m d (Idled node) = Idles m d node
Makes m d (Control item) = Controls m d item
