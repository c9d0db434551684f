use Rattle.std.proofs.Common.{◌∷◌, arith}
use Rattle.std.proofs.lemmas.Result.{err_from_is_err_and}
use Rattle.fault.specs.Checks.{check}
use Rattle.fault.proofs.Ordered.{fails_first}
use Rattle.text.specs.Lines.{HasFields}
use Rattle.vocab.specs.declared.faults.LineFault.TheVariants.{Layout}
use Rattle.format.specs.Tables.{setting_takes}
use Rattle.format.specs.Verdict.{SettingLine, field_checks}
use Rattle.format.proofs.Judging.{root_fails}
use Rattle.session.proofs.lines.setting_line.Goals as goal
use Rattle.session.proofs.lines.setting_line.Goals.{In_ok-setting}

written : (c : In_ok-setting) → SettingLine c.args.columns.now.order c.args.line.text.now c.in_ok-setting.setting
written c =
    let f = c.in_ok-setting.ensures.2 in
    record { is = f.is; range = record { some = (f.fit 0 (omega (arith, c.args.columns.now.once.long))).0; few = (f.fit 0 (omega (arith, c.args.columns.now.once.long))).1; small = f.fit 1 (omega (arith, c.args.columns.now.once.long)) } }

pub returns-in_err-setting : goal.returns-in_err-setting
returns-in_err-setting c =
    let p = err_from_is_err_and c.from_residual.result c.from_residual.ensures.1 in
    rw (p.1, p.2) (fails_first (check Layout (HasFields c.args.line.text.now 5) ∷ field_checks setting_takes c.args.line.text.now 0 c.args.columns.now.order) _ _ c.in_err-setting.ensures)

pub returns-then-setting : goal.returns-then-setting
returns-then-setting c =
    let a = (goal.at.returns-then-setting c).In_ok-setting in
    let e = c.in_ok-setting.ensures in
    root_fails c.args.columns.now.order c.args.line.text.now c.in_ok-setting.setting c.place.result c.args.columns.now.once e.1 e.2.passes (written a) c.if-setting.true c.place.ensures.found
