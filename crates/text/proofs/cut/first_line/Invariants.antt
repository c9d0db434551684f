use Rattle.std.proofs.Common.{◌≡◌, ℕ, List, length}
use Rattle.text.proofs.Cuts.{Sofar}
use Rattle.text.proofs.cut.first_line.Given as goal

abbrev pub invariant-loop-after : goal.invariant-loop-after
invariant-loop-after l = (fs : List (List ℕ)) × Sofar l.text fs l.rest × (length fs ≡ l.fields)

abbrev pub decreases-loop-after : goal.decreases-loop-after
decreases-loop-after l = length l.rest
