use Rattle.std.proofs.Common.{◌≡◌, ◌+◌, ◌<◌, true, [], ◌∷◌, ◌++◌, length, vec_items, sym, ap, ◌∙◌, subst, inl, arith}
use Rattle.std.proofs.lemmas.Result.{err_from_is_err_and}
use Rattle.fault.specs.Checks.{Fails}
use Rattle.mesh.specs.declared.link.Link.{Link}
use Rattle.mesh.specs.Rules.{EndsDiffer, Joins}
use Rattle.vocab.specs.declared.faults.ReadFault.TheVariants.{Line}
use Rattle.format.specs.Verdict.{digit_first, UpTo, at_links, link_line_checks, LinkLine}
use Rattle.scan.proofs.Handed.{line_ok, line_err}
use Rattle.format.proofs.Walks.{refuse, refuse_next, more_links, link_line_at}
use Rattle.session.proofs.reader.link_table.Goals as goal

pub returns-in_err-line : goal.returns-in_err-line
returns-in_err-line c =
    let p = err_from_is_err_and c.from_residual.result c.from_residual.ensures.1 in
    let m = c.loop-line.mesh in
    record {
      nodes = c.loop-line.invariant.0;
      root = c.loop-line.invariant.1;
      reads = rw (p.1, p.2) (λ bytes o h e u. refuse_next bytes (at_links o h c.args.columns.now.order (vec_items m.links)) c.loop-line.rest.now _ c.in_err-line.field-0.0 (c.loop-line.invariant.2 bytes o h e u) (inl (λ x. x)) (omega (arith, c.len-number.ensures, m.links.ok.0)) c.in_err-line.ensures);
    }

pub returns-in_err-at_line : goal.returns-in_err-at_line
returns-in_err-at_line c =
    let p = err_from_is_err_and c.from_residual-in_err-at_line.result c.from_residual-in_err-at_line.ensures.1 in
    let m = c.loop-line.mesh in
    let line = c.in_ok-line.line.text.now in
    let l = line_err (4 + c.len-number.result) c.link_line.result c.at_line.result c.in_err-at_line.field-0.0 _ (λ e. Fails (link_line_checks c.args.columns.now.order m.nodes (vec_items m.links) line) e × (vec_items c.link_line.new.mesh.links ≡ vec_items m.links)) c.at_line.ensures c.in_err-at_line.was c.link_line.ensures.joins in
    let h = c.in_ok-line.ensures in
    let digit : digit_first line ≡ true = sym c.is_link_line.ensures ∙ c.if-not-is_link_line.false in
    let n : 4 + c.len-number.result ≡ 4 + length (vec_items m.links) = omega (arith, c.len-number.ensures, m.links.ok.0) in
    record {
      nodes = c.link_line.ensures.nodes ∙ c.loop-line.invariant.0;
      root = c.link_line.ensures.root ∙ c.loop-line.invariant.1;
      reads = rw (p.1, p.2) (λ bytes o k e u.
          refuse bytes (at_links o k c.args.columns.now.order (vec_items m.links)) c.loop-line.rest.now line c.in_ok-line.after.now l.0 c.in_err-at_line.field-0.0
          (c.loop-line.invariant.2 bytes o k e u) h c.in_ok-line.line.cut.0 c.in_ok-line.line.cut.1.0
          (subst (λ cs. Fails cs l.0) (link_line_at o k c.args.columns.now.order (vec_items m.links) line digit)
          (subst (λ x. Fails (link_line_checks c.args.columns.now.order x (vec_items m.links) line) l.0) (c.loop-line.invariant.0 ∙ sym e) l.1.0))
          (l.2 ∙ ap (λ x. Line x l.0) n));
    }

pub loop-line-preserved : goal.loop-line-preserved
loop-line-preserved c =
    let m = c.loop-line.mesh in
    let line = c.in_ok-line.line.text.now in
    let order = c.args.columns.now.order in
    let g = line_ok (4 + c.len-number.result) c.link_line.result c.at_line.result c.in_ok-at_line.field-0
    (λ _. (l : Link) × LinkLine order m.nodes line l × (length (vec_items m.links) < 512) × EndsDiffer l × (Joins (vec_items m.links) l.from l.to → ⊥) × (vec_items c.link_line.new.mesh.links ≡ vec_items m.links ++ l ∷ [])) _
    c.at_line.ensures c.in_ok-at_line.was c.link_line.ensures.joins in (
      c.link_line.ensures.nodes ∙ c.loop-line.invariant.0,
      c.link_line.ensures.root ∙ c.loop-line.invariant.1,
      λ bytes o h e u. subst (λ ls. UpTo bytes (at_links o h order ls) c.in_ok-line.after.now) (sym g.5)
          (more_links bytes c.loop-line.rest.now line c.in_ok-line.after.now c.in_ok-line.ensures o h order (vec_items m.links) g.0
          (c.loop-line.invariant.2 bytes o h e u) (subst (λ x. LinkLine order x line g.0) (c.loop-line.invariant.0 ∙ sym e) g.1) g.2 g.3 g.4),
    )

pub returns-then-not-is_link_line-clause-reads : goal.returns-then-not-is_link_line-clause-reads
returns-then-not-is_link_line-clause-reads c =
    let h = c.in_ok-line.ensures in
    record {
      is = λ bytes o k e u. subst (λ x. UpTo bytes (at_links o k c.args.columns.now.order (vec_items c.loop-line.mesh.links)) x) h (c.loop-line.invariant.2 bytes o k e u);
      ends = sym c.is_link_line.ensures ∙ c.if-not-is_link_line.true;
    }
