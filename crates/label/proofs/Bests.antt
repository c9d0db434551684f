-- The laws of paths and best labels, from the four laws of a kind alone.
use Rattle.std.proofs.Common.{◌≡◌, ℕ, ◌≤◌, List, [], ◌∷◌, ◌++◌, sym, refl, ap, ◌∙◌, arith}
use native.Mathlib.Decide.{ℕ_discrete}
use Rattle.label.specs.Kinds.{Kind, Lawful}
use Rattle.label.specs.Paths.{Graph, Leads, link_at, path_label, NoneStays, OneBest, RootStart, NeverBetter, GoesOn, PathLaws}

module _ {L : Type 0} (κ : Kind L) (w : Lawful κ) where
  -- None's extension is no better than none (law 4) and no worse (law 2), so it has none's rank (law 1).
  pub none_stays : NoneStays κ
  none_stays l = w.same (κ.extend κ.none l) κ.none (omega (arith, w.worst (κ.extend κ.none l), w.never κ.none l))

  -- Each link of a longer path makes its label at most worse (law 4).
  pub never_better : NeverBetter κ
  never_better g [] ks = omega arith
  never_better g (j ∷ js) ks = omega (arith, never_better g js ks, w.never (path_label κ g (js ++ ks)) (link_at g j))

  -- Law 3, link by link.
  pub goes_on : GoesOn κ
  goes_on g [] js ks h = h
  goes_on g (i ∷ is) js ks h = w.keeps (path_label κ g (is ++ js)) (path_label κ g (is ++ ks)) (link_at g i) (goes_on g is js ks h)

  start_least : (g : Graph) (ks : List ℕ) → κ.rank κ.start ≤ κ.rank (path_label κ g ks)
  start_least g [] = omega arith
  start_least g (k ∷ ks) = omega (arith, start_least g ks, w.never (path_label κ g ks) (link_at g k))

  -- The empty path leads to the root and has start; no path has better.
  pub root_start : RootStart κ
  root_start g = record { least = λ ks l. start_least g ks; met = λ ks l. ([], refl, refl); none = λ f. absurd (f [] refl) }

  -- Assume that two best labels of a node have different ranks. Were there a path to the node, each label would be that
  -- of some path, and so no better than the other: the ranks would agree. So there is no path; but then both are none.
  pub one_best : OneBest κ
  one_best g v a b p q =
      let reached : (ks : List ℕ) → Leads g ks v → κ.rank a ≡ κ.rank b = λ ks l.
      let x = p.met ks l in
      let y = q.met ks l in
      omega (arith, q.least x.0 x.1, p.least y.0 y.1, ap κ.rank x.2, ap κ.rank y.2) in
      w.same a b (elim (ℕ_discrete (κ.rank a) (κ.rank b)) [
        | yes e ↦ e
        | no c ↦
            let alone : (ks : List ℕ) → Leads g ks v → ⊥ = λ ks l. c (reached ks l) in
            absurd (c (ap κ.rank (p.none alone ∙ sym (q.none alone))))
      ])

  pub path_laws : PathLaws κ
  path_laws = record { none_stays = none_stays; one_best = one_best; root_start = root_start; never_better = never_better; goes_on = goes_on }
