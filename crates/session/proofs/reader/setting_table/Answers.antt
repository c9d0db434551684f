use Rattle.std.proofs.Common.{refl, inl}
use Rattle.std.proofs.lemmas.Result.{err_from_is_err_and}
use Rattle.fault.specs.Checks.{Fails}
use Rattle.format.specs.Verdict.{UpTo, at_setting_names, at_setting, setting_checks}
use Rattle.scan.proofs.Handed.{line_err}
use Rattle.format.proofs.Walks.{refuse, refuse_next, to_setting}
use Rattle.session.proofs.reader.setting_table.Goals as goal
use Rattle.session.proofs.reader.setting_table.Goals.{In_ok-columns}

pub returns-in_err-columns : goal.returns-in_err-columns
returns-in_err-columns c =
    let p = err_from_is_err_and c.from_residual.result c.from_residual.ensures.1 in
    rw (p.1, p.2) (c.in_err-columns.ensures c.args.bytes.now at_setting_names (refl, (λ e. e), λ line e f. f) (record { short = c.requires; sound = tt; is = refl }))

-- the names stand before the second line
named : (c : In_ok-columns) → UpTo c.args.bytes.now (at_setting c.in_ok-columns.columns.order) c.in_ok-columns.values.now
named c =
    let o = c.in_ok-columns.columns in
    to_setting c.args.bytes.now c.args.bytes.now _ c.in_ok-columns.values.now c.in_ok-columns.ensures o.order (record { short = c.requires; sound = tt; is = refl }) o.once refl

pub returns-in_err-line : goal.returns-in_err-line
returns-in_err-line c =
    let p = err_from_is_err_and c.from_residual-in_err-line.result c.from_residual-in_err-line.ensures.1 in
    rw (p.1, p.2) (refuse_next c.args.bytes.now (at_setting c.in_ok-columns.columns.order) c.in_ok-columns.values.now 2 c.in_err-line.field-0.0 (named (goal.at.returns-in_err-line c).In_ok-columns) (inl (λ e. e)) refl c.in_err-line.ensures)

pub returns-in_err-setting : goal.returns-in_err-setting
returns-in_err-setting c =
    let p = err_from_is_err_and c.from_residual-in_err-setting.result c.from_residual-in_err-setting.ensures.1 in
    let o = c.in_ok-columns.columns.order in
    let line = c.in_ok-line.line in
    let l = line_err 2 c.setting_line.result c.at_line.result c.in_err-setting.field-0.0 _ (Fails (setting_checks o line.text.now)) c.at_line.ensures c.in_err-setting.was c.setting_line.ensures in
    rw (p.1, p.2) (refuse c.args.bytes.now (at_setting o) c.in_ok-columns.values.now line.text.now c.in_ok-line.rest.now l.0 c.in_err-setting.field-0.0 (named (goal.at.returns-in_err-setting c).In_ok-columns) c.in_ok-line.ensures line.cut.0 line.cut.1.0 l.1 l.2)
