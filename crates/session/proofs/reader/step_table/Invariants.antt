use Rattle.std.proofs.Common.{ℕ, ◌+◌, ◌*◌, ◌≤◌, List, [], length, vec_items, vec_len, vec_capacity}
use Rattle.mesh.specs.declared.link.Link.{Link}
use Rattle.vocab.specs.declared.kinds.Setting.{Setting}
use Rattle.format.specs.Verdict.{UpTo, at_steps}
use Rattle.session.proofs.reader.step_table.Given as goal

abbrev pub invariant-loop-rest : goal.invariant-loop-rest
invariant-loop-rest l =
    (4 * vec_len l.steps + length l.rest ≤ 65536)
    × (16384 ≤ vec_capacity l.steps)
    × ((bytes o : List ℕ) (h : Setting) (p : List ℕ) (ls : List Link) → UpTo bytes (at_steps o h p ls l.columns.order []) l.text → UpTo bytes (at_steps o h p ls l.columns.order (vec_items l.steps)) l.rest)

abbrev pub decreases-loop-rest : goal.decreases-loop-rest
decreases-loop-rest l = length l.rest
