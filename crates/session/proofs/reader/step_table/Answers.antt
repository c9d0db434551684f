use Rattle.std.proofs.Common.{◌≡◌, ◌+◌, ◌<◌, ◌≤◌, length, vec_items, sym, ap, ◌∙◌, subst, inr, arith, true-eqb}
use borrow.Author.Tests.{eqb-false}
use Rattle.std.proofs.lemmas.List.{nil_from_length}
use Rattle.std.proofs.lemmas.Result.{err_from_is_err_and}
use Rattle.fault.specs.Checks.{Fails}
use Rattle.text.specs.Lines.{spaced}
use Rattle.vocab.specs.declared.faults.ReadFault.TheVariants.{Line}
use Rattle.format.specs.Columns.{arranged}
use Rattle.format.specs.Tables.{step_values}
use Rattle.format.specs.Verdict.{UpTo, at_steps, step_checks}
use Rattle.format.proofs.Known.{step_fields}
use Rattle.format.proofs.Orders.{cut_of}
use Rattle.scan.proofs.Handed.{line_ok, line_err}
use Rattle.format.proofs.Walks.{refuse, refuse_next, more_steps, four_bytes}
use Rattle.session.proofs.reader.step_table.Goals as goal

pub returns-in_err-line : goal.returns-in_err-line
returns-in_err-line c =
    let e = err_from_is_err_and c.from_residual.result c.from_residual.ensures.1 in
    let some : 0 < length c.loop-rest.rest.now = omega (arith, eqb-false _ _ (sym c.loop-rest-test.ensures)) in
    record {
      reads = rw (e.1, e.2) (λ bytes o h p ls n u.
          refuse_next bytes (at_steps o h p ls c.args.columns.now.order (vec_items c.loop-rest.steps)) c.loop-rest.rest.now (c.args.first + c.len.result) c.in_err-line.field-0.0
          (c.loop-rest.invariant.2 bytes o h p ls u) (inr some) (omega (arith, n, c.len.ensures, c.loop-rest.steps.ok.0)) c.in_err-line.ensures);
    }

pub returns-in_err-step : goal.returns-in_err-step
returns-in_err-step c =
    let e = err_from_is_err_and c.from_residual-in_err-step.result c.from_residual-in_err-step.ensures.1 in
    let line = c.in_ok-line.line.text.now in
    let l = line_err (c.args.first + c.len.result) c.step_line.result c.at_line.result c.in_err-step.field-0.0 _ (Fails (step_checks c.args.columns.now.order line)) c.at_line.ensures c.in_err-step.was c.step_line.ensures in
    let w = c.in_ok-line.ensures in
    record {
      reads = rw (e.1, e.2) (λ bytes o h p ls n u.
          refuse bytes (at_steps o h p ls c.args.columns.now.order (vec_items c.loop-rest.steps)) c.loop-rest.rest.now line c.in_ok-line.after.now l.0 c.in_err-step.field-0.0
          (c.loop-rest.invariant.2 bytes o h p ls u) w c.in_ok-line.line.cut.0 c.in_ok-line.line.cut.1.0 l.1
          (l.2 ∙ ap (λ x. Line x l.0) (let z : c.args.first + c.len.result ≡ 5 + length ls + length (vec_items c.loop-rest.steps) = omega (arith, n, c.len.ensures, c.loop-rest.steps.ok.0) in z)));
    }

pub returns : goal.returns
returns c = record {
  reads = λ bytes o h p ls u.
      subst (UpTo bytes (at_steps o h p ls c.args.columns.now.order (vec_items c.loop-rest.steps))) (nil_from_length c.loop-rest.rest.now (true-eqb _ 0 c.loop-rest-test.ensures)) (c.loop-rest.invariant.2 bytes o h p ls u);
}

pub loop-rest-preserved : goal.loop-rest-preserved
loop-rest-preserved c =
    let line = c.in_ok-line.line.text.now in
    let after = c.in_ok-line.after.now in
    let order = c.args.columns.now.order in
    let is = c.in_ok-line.ensures in
    let s = c.in_ok-step.step in
    let g = line_ok (c.args.first + c.len.result) c.step_line.result c.at_line.result s (λ t. (t.pick ≤ 65535) × (line ≡ spaced (arranged order (step_values t)))) _ c.at_line.ensures c.in_ok-step.was c.step_line.ensures in
    let cut = cut_of order (step_values s) line c.args.columns.now.once (omega arith) (step_fields s g.0) g.1 in
    let four = four_bytes c.loop-rest.rest.now line after _ is cut.0 cut.1 in (
      omega (arith, four, c.push_reserved.ensures.len, c.loop-rest.invariant.0),
      omega (arith, c.push_reserved.ensures.capacity, c.loop-rest.invariant.1),
      λ bytes o h p ls u. subst (λ ss. UpTo bytes (at_steps o h p ls order ss) after) (sym c.push_reserved.ensures.items)
          (more_steps bytes c.loop-rest.rest.now line after is o h p ls order (vec_items c.loop-rest.steps) s (c.loop-rest.invariant.2 bytes o h p ls u) g.0 g.1),
    )
