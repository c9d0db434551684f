use Rattle.std.proofs.Common.{◌++◌, take}
use Rattle.std.specs.List.{flat_map}
use Rattle.vocab.specs.Words.{names}
use Rattle.text.specs.Output.{Appends}
use Rattle.standard.specs.Texts.{line}
use Rattle.standard.proofs.put.put_table.Given as goal

abbrev pub invariant-loop-row : goal.invariant-loop-row
invariant-loop-row g l = Appends l.fn.output (line (names l.fn.table) ++ flat_map g.R.Put.text (take l.row-index l.rows)) l.output
