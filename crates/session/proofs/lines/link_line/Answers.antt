use Rattle.std.proofs.Common.{◌<◌, length, vec_items, sym, refl, ◌∙◌, inr, arith}
use Rattle.std.proofs.lemmas.Result.{err_from_is_err_and}
use Rattle.std.proofs.lemmas.Bool.{leb-false}
use Rattle.fault.proofs.Ordered.{fails_first}
use Rattle.format.specs.Tables.{link_takes}
use Rattle.format.specs.Verdict.{LinkLine, field_checks}
use Rattle.format.proofs.Judging.{link_fails}
use Rattle.session.proofs.lines.link_line.Goals as goal
use Rattle.session.proofs.lines.link_line.Goals.{After-is_full, After-fill, In_ok-fill}

room : (c : After-fill) → length (vec_items c.args.mesh.now.links) < 512
room c = leb-false 512 (length (vec_items c.args.mesh.now.links)) (sym c.is_full.ensures ∙ c.if-is_full.false)

written : (c : In_ok-fill) → LinkLine c.args.columns.now.order c.args.mesh.now.nodes c.args.line.text.now c.fill.new.row.link
written c =
    let f = c.in_ok-fill.ensures.fills in
    let n = c.in_ok-fill.ensures.base in
    let m = c.args.mesh.now in
    record {
      is = f.is;
      range = (
        (omega (arith, f.fit 0 (omega (arith, c.args.columns.now.once.long)), n, m.rooted), omega (arith, f.fit 1 (omega (arith, c.args.columns.now.once.long)), n, m.rooted)),
        f.fit 2 (omega (arith, c.args.columns.now.once.long)),
        f.fit 3 (omega (arith, c.args.columns.now.once.long)),
      );
    }

pub returns-in_err-fill : goal.returns-in_err-fill
returns-in_err-fill c =
    let a = (goal.at.returns-in_err-fill c).After-fill in
    let p = err_from_is_err_and c.from_residual-in_err-fill.result c.from_residual-in_err-fill.ensures.1 in
    record {
      nodes = refl;
      root = refl;
      joins = rw (p.1, p.2) (inr (c.in_ok-has_fields.ensures, inr (room a, fails_first (field_checks (link_takes c.args.mesh.now.nodes) c.args.line.text.now 0 c.args.columns.now.order) _ _ c.in_err-fill.ensures.fills)), refl);
    }

pub returns-in_err-join : goal.returns-in_err-join
returns-in_err-join c =
    let a = (goal.at.returns-in_err-join c).After-fill in
    let b = (goal.at.returns-in_err-join c).In_ok-fill in
    let p = err_from_is_err_and c.from_residual-in_err-join.result c.from_residual-in_err-join.ensures.1 in
    let e = c.in_err-join.ensures in
    record {
      nodes = e.nodes;
      root = e.root;
      joins = rw (p.1, p.2) (link_fails c.args.columns.now.order c.args.mesh.now.nodes (vec_items c.args.mesh.now.links) c.args.line.text.now c.fill.new.row.link c.in_err-join.field-0.0 c.args.columns.now.once c.args.mesh.now.many c.in_ok-has_fields.ensures (room a) c.in_ok-fill.ensures.fills.passes (written b) e.links.0, e.links.1);
    }
