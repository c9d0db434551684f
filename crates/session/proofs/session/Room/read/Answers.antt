use Rattle.std.proofs.Common.{◌≡◌, ℕ, Ok, Result, MatchResult, ◌+◌, ◌≤◌, [], ◌∷◌, ◌++◌, length, vec_items, sym, refl, ap, ◌∙◌, subst, append-nil, arith}
use Rattle.std.proofs.lemmas.List.Elements.{All-from_recursion}
use Rattle.std.proofs.lemmas.List.{length-append}
use Rattle.std.proofs.lemmas.Result.{err_from_is_err_and, MatchResult-at_ok}
use Rattle.fault.specs.Checks.{Passes, Fails}
use Rattle.mesh.specs.declared.mesh.Mesh.{Mesh}
use Rattle.mesh.specs.declared.link.MeshFault.{MeshFault}
use Rattle.mesh.specs.Checks.{root_checks}
use Rattle.text.specs.Lines.{spaced}
use Rattle.vocab.specs.declared.kinds.Table.TheVariants.{Steps}
use Rattle.vocab.specs.declared.faults.ReadFault.TheVariants.{Line}
use Rattle.format.specs.Columns.{arranged}
use Rattle.vocab.specs.Words.{names}
use Rattle.format.specs.Content.{standard}
use Rattle.format.specs.Verdict.{UpTo, Accepts, at_link_names, at_links, at_steps, before, names_checks, accepted, refused}
use Rattle.scan.proofs.Handed.{line_ok, line_err}
use Rattle.format.proofs.Lengths.{standard_length}
use Rattle.format.proofs.Single.{judged}
use Rattle.format.proofs.Walks.{refuse, to_links, to_steps, names_line_at}
use Rattle.session.proofs.session.Room.read.Goals as goal
use Rattle.session.proofs.session.Room.read.Goals.{In_ok-setting, In_ok-columns, After-unwrap-mesh, In_ok-names, In_ok-step_columns, In_ok-step_table}

pub returns-in_err-setting : goal.returns-in_err-setting
returns-in_err-setting c =
    let p = err_from_is_err_and c.from_residual.result c.from_residual.ensures.1 in
    record { judged = rw (p.1, p.2) (judged c.args.bytes.now (refused c.in_err-setting.field-0.0) c.in_err-setting.ensures); sized = rw p.1 tt }

pub returns-in_err-columns : goal.returns-in_err-columns
returns-in_err-columns c =
    let p = err_from_is_err_and c.from_residual-in_err-columns.result c.from_residual-in_err-columns.ensures.1 in
    let u = c.in_ok-setting.ensures in
    record { judged = rw (p.1, p.2) (judged c.args.bytes.now (refused c.in_err-columns.field-0.0) (c.in_err-columns.ensures c.args.bytes.now (at_link_names u.0 c.in_ok-setting.setting) (refl, (λ e. e), λ line e f. f) u.1)); sized = rw p.1 tt }

-- the mesh that was opened
opened_as : (nodes root : ℕ) (r : Result Mesh MeshFault) (m : Mesh) → r ≡ Ok m →
    MatchResult r (λ x. Passes (root_checks nodes root) × (x.nodes ≡ nodes) × (x.root ≡ root) × (x.links.items ≡ [])) (Fails (root_checks nodes root)) →
    (m.nodes ≡ nodes) × (m.root ≡ root) × (m.links.items ≡ [])
opened_as nodes root r m is h = let k = MatchResult-at_ok _ _ m is h in (k.1, k.2, k.3)

-- the file is in order up to the first link
up_links : (c : After-unwrap-mesh) → UpTo c.args.bytes.now (at_links c.in_ok-setting.ensures.0 c.in_ok-setting.setting c.in_ok-columns.columns.order []) c.in_ok-columns.links_text.now
up_links c =
    let u = c.in_ok-setting.ensures in
    let p = c.in_ok-columns.columns in
    to_links c.args.bytes.now _ _ c.in_ok-columns.links_text.now c.in_ok-columns.ensures u.0 c.in_ok-setting.setting p.order u.1 p.once refl

pub returns-in_err-names : goal.returns-in_err-names
returns-in_err-names c =
    let p = err_from_is_err_and c.from_residual-in_err-names.result c.from_residual-in_err-names.ensures.1 in
    let o = c.in_ok-setting.ensures.0 in
    let h = c.in_ok-setting.setting in
    record {
      judged = rw (p.1, p.2) (judged c.args.bytes.now (refused c.in_err-names.field-0.0)
          (c.in_err-names.ensures.reads c.args.bytes.now o h (sym (opened_as c.in_ok-setting.setting.nodes c.in_ok-setting.setting.root c.open.result c.unwrap-mesh.result c.unwrap-mesh.ensures c.open.ensures).0)
          (up_links (goal.at.returns-in_err-names c).After-unwrap-mesh)));
      sized = rw p.1 tt;
    }

-- up to the line after the links
up_names : (c : In_ok-names) → UpTo c.args.bytes.now (at_links c.in_ok-setting.ensures.0 c.in_ok-setting.setting c.in_ok-columns.columns.order []) c.in_ok-columns.links_text.now → UpTo c.args.bytes.now (at_links c.in_ok-setting.ensures.0 c.in_ok-setting.setting c.in_ok-columns.columns.order (vec_items c.link_table.new.mesh.links)) (c.in_ok-names.names.text.now ++ 10 ∷ c.in_ok-names.steps_text.now)
up_names c u =
    let o = c.in_ok-setting.ensures.0 in
    let h = c.in_ok-setting.setting in
    c.in_ok-names.ensures.reads.is c.args.bytes.now o h (sym (opened_as h.nodes h.root c.open.result c.unwrap-mesh.result c.unwrap-mesh.ensures c.open.ensures).0) u

pub returns-in_err-step_columns : goal.returns-in_err-step_columns
returns-in_err-step_columns c =
    let e = err_from_is_err_and c.from_residual-in_err-step_columns.result c.from_residual-in_err-step_columns.ensures.1 in
    let o = c.in_ok-setting.ensures.0 in
    let h = c.in_ok-setting.setting in
    let p = c.in_ok-columns.columns.order in
    let ls = vec_items c.link_table.new.mesh.links in
    let line = c.in_ok-names.names.text.now in
    let r = c.in_ok-names.ensures.reads in
    let l = line_err (4 + c.len-number.result) c.names_line.result c.at_line.result c.in_err-step_columns.field-0.0 _ (Fails (names_checks (names Steps) line)) c.at_line.ensures c.in_err-step_columns.was c.names_line.ensures in
    let n : 4 + c.len-number.result ≡ 4 + length ls = omega (arith, c.len-number.ensures, c.link_table.new.mesh.links.ok.0) in
    record {
      judged = rw (e.1, e.2) (judged c.args.bytes.now (refused c.in_err-step_columns.field-0.0)
          (refuse c.args.bytes.now (at_links o h p ls) _ line c.in_ok-names.steps_text.now l.0 c.in_err-step_columns.field-0.0 (up_names (goal.at.returns-in_err-step_columns c).In_ok-names (up_links (goal.at.returns-in_err-step_columns c).After-unwrap-mesh)) refl c.in_ok-names.names.cut.0 c.in_ok-names.names.cut.1.0
          (subst (λ cs. Fails cs l.0) (names_line_at o h p ls line r.ends) l.1) (l.2 ∙ ap (λ x. Line x l.0) n)));
      sized = rw e.1 tt;
    }

-- the names of the steps
named : (c : In_ok-step_columns) → c.in_ok-names.names.text.now ≡ spaced (arranged c.in_ok-step_columns.step_columns.order (names Steps))
named c =
    line_ok (4 + c.len-number.result) c.names_line.result c.at_line.result c.in_ok-step_columns.step_columns (λ q. c.in_ok-names.names.text.now ≡ spaced (arranged q.order (names Steps))) _ c.at_line.ensures c.in_ok-step_columns.was c.names_line.ensures

-- up to the first step
up_steps : (c : In_ok-step_columns) (u : UpTo c.args.bytes.now (at_links c.in_ok-setting.ensures.0 c.in_ok-setting.setting c.in_ok-columns.columns.order (vec_items c.link_table.new.mesh.links)) (c.in_ok-names.names.text.now ++ 10 ∷ c.in_ok-names.steps_text.now)) → UpTo c.args.bytes.now (at_steps c.in_ok-setting.ensures.0 c.in_ok-setting.setting c.in_ok-columns.columns.order (vec_items c.link_table.new.mesh.links) c.in_ok-step_columns.step_columns.order []) c.in_ok-names.steps_text.now
up_steps c u =
    to_steps c.args.bytes.now _ c.in_ok-names.names.text.now c.in_ok-names.steps_text.now refl c.in_ok-setting.ensures.0 c.in_ok-setting.setting c.in_ok-columns.columns.order (vec_items c.link_table.new.mesh.links) c.in_ok-step_columns.step_columns.order u c.in_ok-step_columns.step_columns.once (named c)

pub step_table-requires : goal.step_table-requires
step_table-requires c =
    let a = (goal.at.step_table-requires c).In_ok-step_columns in
    let u = up_names (goal.at.step_table-requires c).In_ok-names (up_links (goal.at.step_table-requires c).After-unwrap-mesh) in
    let m = c.link_table.new.mesh in
    record {
      near = omega (arith, c.len-number.ensures, m.few);
      none = c.args.self.empty;
      short = omega (arith, u.short, ap length u.is, length-append (before (at_links c.in_ok-setting.ensures.0 c.in_ok-setting.setting c.in_ok-columns.columns.order (vec_items m.links))) (c.in_ok-names.names.text.now ++ 10 ∷ c.in_ok-names.steps_text.now), length-append c.in_ok-names.names.text.now (10 ∷ c.in_ok-names.steps_text.now));
      room = c.args.self.enough;
    }

pub returns-in_err-step_table : goal.returns-in_err-step_table
returns-in_err-step_table c =
    let e = err_from_is_err_and c.from_residual-in_err-step_table.result c.from_residual-in_err-step_table.ensures.1 in
    let o = c.in_ok-setting.ensures.0 in
    let h = c.in_ok-setting.setting in
    let p = c.in_ok-columns.columns.order in
    let ls = vec_items c.link_table.new.mesh.links in
    let u = up_steps (goal.at.returns-in_err-step_table c).In_ok-step_columns (up_names (goal.at.returns-in_err-step_table c).In_ok-names (up_links (goal.at.returns-in_err-step_table c).After-unwrap-mesh)) in
    record {
      judged = rw (e.1, e.2) (judged c.args.bytes.now (refused c.in_err-step_table.field-0.0)
          (c.in_err-step_table.ensures.reads c.args.bytes.now o h p ls (omega (arith, c.len-number.ensures, c.link_table.new.mesh.links.ok.0))
          u));
      sized = rw e.1 tt;
    }

-- up to the end
up_end : (c : In_ok-step_table) (u : UpTo c.args.bytes.now (at_steps c.in_ok-setting.ensures.0 c.in_ok-setting.setting c.in_ok-columns.columns.order (vec_items c.link_table.new.mesh.links) c.in_ok-step_columns.step_columns.order []) c.in_ok-names.steps_text.now) → UpTo c.args.bytes.now (at_steps c.in_ok-setting.ensures.0 c.in_ok-setting.setting c.in_ok-columns.columns.order (vec_items c.link_table.new.mesh.links) c.in_ok-step_columns.step_columns.order (vec_items c.step_table.new.steps)) []
up_end c u =
    let o = c.in_ok-setting.ensures.0 in
    let h = c.in_ok-setting.setting in
    let p = c.in_ok-columns.columns.order in
    let ls = vec_items c.link_table.new.mesh.links in
    let bytes = c.args.bytes.now in
    c.in_ok-step_table.ensures.reads bytes o h p ls u

-- the mesh has the nodes and the root of the settings
same_setting : (c : In_ok-step_table) → c.in_ok-setting.setting ≡ record { nodes = c.link_table.new.mesh.nodes; root = c.link_table.new.mesh.root; kind = c.in_ok-setting.setting.kind; detector = c.in_ok-setting.setting.detector; channel = c.in_ok-setting.setting.channel }
same_setting c =
    let h = c.in_ok-setting.setting in
    let e = sym (c.in_ok-names.ensures.nodes ∙ (opened_as c.in_ok-setting.setting.nodes c.in_ok-setting.setting.root c.open.result c.unwrap-mesh.result c.unwrap-mesh.ensures c.open.ensures).0) in
    let f = sym (c.in_ok-names.ensures.root ∙ (opened_as c.in_ok-setting.setting.nodes c.in_ok-setting.setting.root c.open.result c.unwrap-mesh.result c.unwrap-mesh.ensures c.open.ensures).1) in
    λ i. record { nodes = e i; root = f i; kind = h.kind; detector = h.detector; channel = h.channel }

-- the file writes this content
writes : (c : In_ok-step_table) (u : UpTo c.args.bytes.now (at_steps c.in_ok-setting.ensures.0 c.in_ok-setting.setting c.in_ok-columns.columns.order (vec_items c.link_table.new.mesh.links) c.in_ok-step_columns.step_columns.order (vec_items c.step_table.new.steps)) []) → Accepts c.args.bytes.now (record { setting = record { nodes = c.link_table.new.mesh.nodes; root = c.link_table.new.mesh.root; kind = c.in_ok-setting.setting.kind; detector = c.in_ok-setting.setting.detector; channel = c.in_ok-setting.setting.channel }; links = vec_items c.link_table.new.mesh.links; steps = vec_items c.step_table.new.steps })
writes c u =
    let ls = vec_items c.link_table.new.mesh.links in
    let ss = vec_items c.step_table.new.steps in
    let s = u.sound in
    subst (λ h. Accepts c.args.bytes.now (record { setting = h; links = ls; steps = ss })) (same_setting c)
    (_, _, _, u.short, s.0, s.2, s.4, record { setting = s.1; links = s.3; steps = s.5 }, u.is ∙ append-nil _)

-- the text in the standard order is as long as the file
long : (c : In_ok-step_table) (u : UpTo c.args.bytes.now (at_steps c.in_ok-setting.ensures.0 c.in_ok-setting.setting c.in_ok-columns.columns.order (vec_items c.link_table.new.mesh.links) c.in_ok-step_columns.step_columns.order (vec_items c.step_table.new.steps)) []) → length (standard (record { setting = record { nodes = c.link_table.new.mesh.nodes; root = c.link_table.new.mesh.root; kind = c.in_ok-setting.setting.kind; detector = c.in_ok-setting.setting.detector; channel = c.in_ok-setting.setting.channel }; links = vec_items c.link_table.new.mesh.links; steps = vec_items c.step_table.new.steps })) ≡ length c.args.bytes.now
long c u = let w = writes c u in standard_length w.0 w.1 w.2 _ w.4 w.5 w.6 ∙ ap length (sym w.8)

pub invariant_of-result : goal.invariant_of-result
invariant_of-result c =
    let a = (goal.at.invariant_of-result c).In_ok-step_table in
    let u = up_end a (up_steps (goal.at.invariant_of-result c).In_ok-step_columns (up_names (goal.at.invariant_of-result c).In_ok-names (up_links (goal.at.invariant_of-result c).After-unwrap-mesh))) in
    record {
      picks = λ k d l. All-from_recursion (λ s. s.pick ≤ 65535) (vec_items c.step_table.new.steps) u.sound.5 k d l;
      short = omega (arith, long a u, u.short);
    }

pub returns : goal.returns
returns c =
    let a = (goal.at.returns c).In_ok-step_table in
    let u = up_end a (up_steps (goal.at.returns c).In_ok-step_columns (up_names (goal.at.returns c).In_ok-names (up_links (goal.at.returns c).After-unwrap-mesh))) in
    record { judged = judged c.args.bytes.now (accepted _) (writes a u); sized = long a u }
