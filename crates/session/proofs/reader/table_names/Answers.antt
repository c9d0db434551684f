use Rattle.std.proofs.Common.{ap, ◌∙◌, inl}
use Rattle.std.proofs.lemmas.Result.{err_from_is_err_and}
use Rattle.fault.specs.Checks.{Fails}
use Rattle.vocab.specs.declared.faults.ReadFault.TheVariants.{Line}
use Rattle.vocab.specs.Words.{names}
use Rattle.format.specs.Verdict.{names_checks}
use Rattle.scan.proofs.Handed.{line_err}
use Rattle.format.proofs.Walks.{refuse, refuse_next}
use Rattle.session.proofs.reader.table_names.Goals as goal

pub returns-in_err-line : goal.returns-in_err-line
returns-in_err-line g c =
    let p = err_from_is_err_and c.from_residual.result c.from_residual.ensures.1 in
    rw (p.1, p.2) (λ bytes q n u. refuse_next bytes q c.args.rest.now c.args.number c.in_err-line.field-0.0 u (inl n.1) n.0 c.in_err-line.ensures)

pub returns-in_err-columns : goal.returns-in_err-columns
returns-in_err-columns g c =
    let p = err_from_is_err_and c.from_residual-in_err-columns.result c.from_residual-in_err-columns.ensures.1 in
    let line = c.in_ok-line.line in
    let l = line_err c.args.number c.names_line.result c.at_line.result c.in_err-columns.field-0.0 _ (Fails (names_checks (names c.args.table) line.text.now)) c.at_line.ensures c.in_err-columns.was c.names_line.ensures in
    rw (p.1, p.2) (λ bytes q n u. refuse bytes q c.args.rest.now line.text.now c.in_ok-line.after.now l.0 c.in_err-columns.field-0.0 u c.in_ok-line.ensures line.cut.0 line.cut.1.0 (n.2 line.text.now l.0 l.1) (l.2 ∙ ap (λ k. Line k l.0) n.0))
