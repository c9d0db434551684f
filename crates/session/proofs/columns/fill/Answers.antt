use Rattle.std.proofs.Common.{◌≡◌, ◌+◌, [], get_or, drop, sym, ap, ◌∙◌, subst, arith}
use Rattle.std.proofs.lemmas.Result.{err_from_is_err_and}
use Rattle.text.specs.Lines.{spaced}
use Rattle.format.proofs.Fills.{next_field, one_more, refused, done}
use Rattle.scan.proofs.Handed.{field_ok, field_err}
use Rattle.session.proofs.columns.fill.Given as given
use Rattle.session.proofs.columns.fill.Goals as goal
use Rattle.session.proofs.columns.fill.Goals.{After-at_field}

-- the fields, and what the loop cut off
cut : (g : given.Over) (c : After-at_field g) → (c.first_field.result.0.now ≡ get_or c.loop-i.invariant.1.0 c.loop-i.i []) × (c.first_field.result.1.now ≡ spaced (drop (c.loop-i.i + 1) c.loop-i.invariant.1.0))
cut g c =
    let i = c.loop-i.invariant.1 in
    next_field c.args.line.text.now i.0 c.loop-i.i c.loop-i.rest.now c.first_field.result.0.now c.first_field.result.1.now i.1.0 (omega (arith, i.1.1, c.args.columns.now.once.long, c.loop-i-test.true)) i.2 c.first_field.ensures

-- what `put` promised, at the base that the row had
takes : (g : given.Over) (c : After-at_field g) → g.R.Row.takes (g.R.Row.base c.loop-i.row) (get_or c.args.columns.now.order c.loop-i.i 0) c.first_field.result.0.now ≡ g.R.Row.takes (g.R.Row.base c.args.row.now) (get_or c.args.columns.now.order c.loop-i.i 0) c.first_field.result.0.now
takes g c = ap (λ b. g.R.Row.takes b (get_or c.args.columns.now.order c.loop-i.i 0) c.first_field.result.0.now) c.loop-i.invariant.0

pub returns-in_err-at_field : goal.returns-in_err-at_field
returns-in_err-at_field g c =
    let m = g.R.Row in
    let i = c.loop-i.invariant.1 in
    let a = (goal.at.returns-in_err-at_field g c).After-at_field in
    let p = err_from_is_err_and c.from_residual.result c.from_residual.ensures.1 in
    let f = field_err (c.loop-i.i + 1) c.put.result c.at_field.result c.in_err-at_field.field-0.0 _ _ c.at_field.ensures c.in_err-at_field.was c.put.ensures.puts in
    record {
      base = c.put.ensures.base ∙ c.loop-i.invariant.0;
      fills = rw (p.1, p.2, f.1) (refused (m.takes (m.base c.args.row.now)) g.row.N c.args.columns.now.order c.args.columns.now.once c.args.line.text.now i.0 i.1.0 (i.1.1 ∙ sym c.args.columns.now.once.long) c.loop-i.i (m.values c.loop-i.row) (m.fits c.loop-i.row) i.3 (omega (arith, c.args.columns.now.once.long, c.loop-i-test.true)) c.first_field.result.0.now (cut g a).0 (λ t. f.0 (subst (λ T. T) (sym (takes g a)) t)));
    }

pub loop-i-preserved : goal.loop-i-preserved
loop-i-preserved g c =
    let m = g.R.Row in
    let i = c.loop-i.invariant.1 in
    let a = (goal.at.loop-i-preserved g c).After-at_field in
    let f = field_ok (c.loop-i.i + 1) c.put.result c.at_field.result c.in_ok-at_field.field-0 _ _ c.at_field.ensures c.in_ok-at_field.was c.put.ensures.puts in (
      c.put.ensures.base ∙ c.loop-i.invariant.0,
      (
        i.0,
        i.1,
        (cut g a).1,
        one_more (m.takes (m.base c.args.row.now)) g.row.N c.args.columns.now.order c.args.columns.now.once c.args.line.text.now i.0 i.1.0 (i.1.1 ∙ sym c.args.columns.now.once.long) c.loop-i.i (m.values c.loop-i.row) (m.fits c.loop-i.row) i.3 (omega (arith, c.args.columns.now.once.long, c.loop-i-test.true)) c.first_field.result.0.now (cut g a).0 (subst (λ T. T) (takes g a) f.0) (m.values c.put.new.self) (m.fits c.put.new.self) f.1,
      ),
    )

pub returns : goal.returns
returns g c =
    let m = g.R.Row in
    let i = c.loop-i.invariant.1 in
    record {
      base = c.loop-i.invariant.0;
      fills = done (m.takes (m.base c.args.row.now)) g.row.N c.args.columns.now.order c.args.columns.now.once c.args.line.text.now i.0 i.1.0 (i.1.1 ∙ sym c.args.columns.now.once.long) c.loop-i.i (m.values c.loop-i.row) (m.fits c.loop-i.row) i.3 (omega (arith, c.args.columns.now.once.long, c.loop-i-test.false));
    }
