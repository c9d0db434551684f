use Rattle.std.proofs.Common.{◌≡◌, ℕ, List, [], length, vec_items}
use Rattle.vocab.specs.declared.kinds.Setting.{Setting}
use Rattle.format.specs.Verdict.{UpTo, at_links}
use Rattle.session.proofs.reader.link_table.Given as goal

abbrev pub invariant-loop-line : goal.invariant-loop-line
invariant-loop-line l =
    (l.mesh.nodes ≡ l.initial.mesh.nodes)
    × (l.mesh.root ≡ l.initial.mesh.root)
    × ((bytes o : List ℕ) (h : Setting) → h.nodes ≡ l.initial.mesh.nodes → UpTo bytes (at_links o h l.columns.order []) l.text → UpTo bytes (at_links o h l.columns.order (vec_items l.mesh.links)) l.rest)

abbrev pub decreases-loop-line : goal.decreases-loop-line
decreases-loop-line l = length l.rest
