use Rattle.std.proofs.Common.{◌≡◌, ℕ, Ok, Err, Result, MatchResult, rules, tests, [], ◌∷◌, ◌++◌, get_or, take, sym, ap, ◌∙◌, subst, inr}
use Rattle.std.proofs.lemmas.List.{take_more, get_or_default}
use Rattle.std.proofs.lemmas.Result.{err_from_is_err_and}
use Rattle.fault.specs.Checks.{Passes, Fails}
use Rattle.mesh.specs.declared.link.Link.{Link}
use Rattle.mesh.specs.declared.link.LinkFault.{LinkFault}
use Rattle.mesh.specs.declared.link.MeshFault.{MeshFault}
use Rattle.mesh.specs.declared.link.MeshFault.TheVariants.{BadLink}
use Rattle.mesh.specs.Checks.{link_checks}
use Rattle.mesh.proofs.Grown.{one_more, refused}
use Rattle.mesh.proofs.mesh.Mesh.new.Goals as goal

abbrev numbered : {T : Type 0} → ℕ → Result T LinkFault → Result T MeshFault
numbered k (Ok x) = Ok x
numbered k (Err e) = Err (BadLink k e)

abbrev no_link : Link
no_link = record { from = 0; to = 0; cost = 0; width = 0 }

-- what a link that joined tells, and one that was refused
at_ok : (P : Type 0) (Q : LinkFault → Type 0) (k : ℕ) (r : Result (Unit {0}) LinkFault) (u : Unit {0}) → Ok u ≡ numbered k r → MatchResult r (λ _. P) Q → P
at_ok P Q k (Ok x) u e h = h
at_ok P Q k (Err g) u e h = cc e

at_err : (P : Type 0) (Q : LinkFault → Type 0) (k : ℕ) (r : Result (Unit {0}) LinkFault) (f : MeshFault) → Err f ≡ numbered k r → MatchResult r (λ _. P) Q → (g : LinkFault) × (f ≡ BadLink k g) × Q g
at_err P Q k (Ok x) f e h = cc e
at_err P Q k (Err g) f e h = (g, cc e, h)

pub returns-in_err-map_err : goal.returns-in_err-map_err
returns-in_err-map_err c =
    let told : c.map_err.result ≡ numbered c.loop-k.k-counter c.join.result = search (rules, tests) in
    let i = c.loop-k.invariant in
    let l = get_or c.args.links.now c.loop-k.k-counter no_link in
    let f = at_err _ _ c.loop-k.k-counter c.join.result _ (sym c.in_err-map_err.was ∙ told) c.join.ensures.links in
    let p = err_from_is_err_and c.from_residual-in_err-map_err.result c.from_residual-in_err-map_err.ensures.1 in
    rw (p.1, p.2, f.1) (inr (
      i.0.0,
      inr (
        i.0.1.0,
        refused c.args.nodes c.args.links.now c.loop-k.k-counter i.4 l c.loop-k-test.true (get_or_default c.args.links.now c.loop-k.k-counter l no_link c.loop-k-test.true) f.0
            (subst (λ n. Fails (link_checks n (take c.loop-k.k-counter c.args.links.now) l) f.0) i.1
            (subst (λ t. Fails (link_checks c.loop-k.mesh.nodes t l) f.0) i.3 f.2.0)),
      ),
    ))

pub loop-k-preserved : goal.loop-k-preserved
loop-k-preserved c =
    let told : c.map_err.result ≡ numbered c.loop-k.k-counter c.join.result = search (rules, tests) in
    let i = c.loop-k.invariant in
    let e = c.join.ensures in
    let m = at_ok _ _ c.loop-k.k-counter c.join.result _ (sym c.in_ok-map_err.was ∙ told) e.links in
    let l = get_or c.args.links.now c.loop-k.k-counter no_link in
    let is = get_or_default c.args.links.now c.loop-k.k-counter l no_link c.loop-k-test.true in (
      i.0,
      e.nodes ∙ i.1,
      e.root ∙ i.2,
      m.1 ∙ ap (λ t. t ++ l ∷ []) i.3 ∙ sym (take_more c.args.links.now c.loop-k.k-counter no_link c.loop-k-test.true),
      one_more c.args.nodes c.args.links.now c.loop-k.k-counter i.4 l c.loop-k-test.true is
          (subst (λ n. Passes (link_checks n (take c.loop-k.k-counter c.args.links.now) l)) i.1
          (subst (λ t. Passes (link_checks c.loop-k.mesh.nodes t l)) i.3 m.0)),
    )
