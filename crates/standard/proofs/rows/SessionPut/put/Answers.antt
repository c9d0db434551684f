use Rattle.std.proofs.Common.{[], ◌∷◌}
use Rattle.text.proofs.Stamps.{both_written}
use Rattle.vocab.specs.Words.{names}
use Rattle.vocab.specs.declared.kinds.Table.TheVariants.{Links, Steps}
use Rattle.format.specs.Columns.{row}
use Rattle.format.specs.Tables.{link_values, step_values}
use Rattle.standard.specs.Texts.{line}
use Rattle.standard.proofs.Lines.{same, rows_text}
use Rattle.standard.proofs.rows.SessionPut.put.Goals as goal

pub returns : goal.returns
returns c =
    both_written (both_written c.put_table.ensures
    (same (rows_text (row (0 ∷ 1 ∷ 2 ∷ 3 ∷ [])) link_values (line (names Links)) c.deref.ensures.value) c.put_table-2.ensures))
    (same (rows_text (row (0 ∷ 1 ∷ [])) step_values (line (names Steps)) c.deref-2.ensures.value) c.put_table-3.ensures)
