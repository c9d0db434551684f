use Rattle.standard.specs.Texts.{line}
use Rattle.vocab.specs.Words.{names}
use Rattle.standard.proofs.Lines.{written_as, next_row}
use Rattle.standard.proofs.put.put_table.Goals as goal

pub loop-row-preserved : goal.loop-row-preserved
loop-row-preserved g c = written_as (next_row g.R.Put.text (line (names c.args.table)) c.args.rows.now c.loop-row.row-index _ c.loop-row-test.true c.row-item.is) c.loop-row.invariant c.put.ensures
