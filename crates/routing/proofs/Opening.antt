-- An opened state keeps the invariants.
use Rattle.std.proofs.Common.{ℕ, ◌<◌, List, [], sym, ap, ◌∙◌, inl, inr, arith}
use mathlib.Core.List.Memᴰ
use native.Mathlib.Decide.{ℕ_discrete}
use Rattle.label.specs.Kinds.{Kind, Lawful}
use Rattle.label.specs.Paths.{Graph, link_at}
use Rattle.label.proofs.Bests.{none_stays}
use Rattle.routing.specs.States.{State, Opened}
use Rattle.routing.specs.Routes.{Parents}
use Rattle.routing.proofs.Accepted.{Accepted}
use Rattle.routing.proofs.Invariant.{FromPath, Relaxed, Resting, Invariants}

module _ {L : Type 0} (κ : Kind L) (g : Graph) (laws : Lawful κ) (ok : Accepted g) (s : State L) (o : Opened κ g s) where
  -- The empty path leads to the root and has start; all else is none.
  made : (v : ℕ) → v < g.nodes → FromPath κ g v (s.label v)
  made v h = elim (ℕ_discrete v g.root) [ yes e ↦ inr ([], e, sym (ap s.label e ∙ o.root_label)) | no n ↦ inl (o.label v h n) ]

  -- Only the root has a label, and it is its own way up.
  up : (v : ℕ) → v < g.nodes → κ.rank (s.label v) < κ.rank κ.none → (ks : List ℕ) × Parents g s.parent ks v
  up v h b = elim (ℕ_discrete v g.root) [ yes e ↦ ([], (e, o.parent v h)) | no n ↦ absurd (omega (arith, ap κ.rank (o.label v h n))) ]

  -- The root has still to send on all its links; from any other node a link makes none of none, and nothing is worse.
  relaxed : Relaxed κ g s.label s.next s.waiting
  relaxed k h b = elim (ℕ_discrete (link_at g k).from g.root) [
    | yes e ↦ absurd (omega (arith, ap s.next e))
    | no n ↦ inl (omega (arith, laws.worst (s.label (link_at g k).to), ap (λ (x : L). κ.rank (κ.extend x (link_at g k))) (o.label _ (ok.from_in k h) n), ap κ.rank (none_stays κ laws (link_at g k))))
  ]

  resting : Resting κ g s
  resting v h a = elim (ℕ_discrete v g.root) [
    | yes e ↦ cc o.root_active
    | no n ↦ o.next v h n
  ]

  pub opened_keeps : Invariants κ g s
  opened_keeps = record {
    rooted = record {
      root_label = o.root_label;
      root_parent = o.parent g.root ok.root_in;
      made = made;
      linked = λ v k h e. cc (o.parent v h);
      up = up;
    };
    carried = λ x h. absurd (Memᴰ.not-nil (rw o.waiting at h));
    relaxed = relaxed;
    resting = resting;
  }
