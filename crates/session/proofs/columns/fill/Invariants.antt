use Rattle.std.proofs.Common.{◌≡◌, ℕ, List, drop}
use Rattle.text.specs.Lines.{Cut, spaced}
use Rattle.format.proofs.Fills.{Sofar}
use Rattle.session.proofs.columns.fill.Given as goal

abbrev pub invariant-loop-i : goal.invariant-loop-i
invariant-loop-i g l =
    let m = g.R.Row in
    (m.base l.row ≡ m.base l.initial.row)
    × ((fs : List (List ℕ))
    × Cut g.row.N l.line.text.now fs
    × (l.rest ≡ spaced (drop l.i fs))
    × Sofar (m.takes (m.base l.initial.row)) g.row.N l.columns.order fs l.i (m.values l.row) (m.fits l.row))
