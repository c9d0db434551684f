use Rattle.std.proofs.Common.{◌≡◌, ℕ, List, length, take, drop}
use Rattle.text.specs.Lines.{Cut, spaced}
use Rattle.format.specs.Columns.{texts}
use Rattle.format.proofs.Orders.{Sofar}
use Rattle.session.proofs.columns.order_of.Given as goal

abbrev pub invariant-loop-i : goal.invariant-loop-i
invariant-loop-i g l =
    (length l.order ≡ g.row.N)
    × ((fs : List (List ℕ))
    × Cut g.row.N l.line fs
    × (l.rest ≡ spaced (drop l.i fs))
    × Sofar (texts l.words) fs l.i (take l.i l.order))
