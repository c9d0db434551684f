-- Steps that change no label and no parent; of these, a message declined and a call that changed nothing.
use Rattle.std.proofs.Common.{◌≡◌, ℕ, ◌<◌, ◌≤◌, ◌⊎◌, length, sym, ap, ◌∙◌, inl, inr, arith}
use mathlib.Core.List.{Memᴰ}
use native.Mathlib.Decide.{ℕ_discrete}
use Rattle.label.specs.Kinds.{Kind, Lawful}
use Rattle.label.specs.Paths.{Graph, link_at}
use Rattle.routing.specs.States.{Message, State}
use Rattle.routing.specs.Protocol.{Better, LabelsKept, Declined, AllKept}
use Rattle.routing.proofs.Lists.{more_keeps, more_only}
use Rattle.routing.proofs.Invariant.{Carried, LinkRelaxed, Resting, Invariants, steady_rooted, carried_better}

module _ {L : Type 0} (κ : Kind L) (g : Graph) (laws : Lawful κ) (s t : State L) (i : Invariants κ g s) (st : LabelsKept s t) where
  pub carried_on : (x : Message L) → Carried κ g s.label x → Carried κ g t.label x
  carried_on = carried_better κ g laws s.label t.label (λ w. omega (arith, ap κ.rank (st.label w)))

  to_rank : (k : ℕ) → κ.rank (t.label (link_at g k).to) ≡ κ.rank (s.label (link_at g k).to)
  to_rank k = ap κ.rank (st.label (link_at g k).to)

  pub from_rank : (k : ℕ) → κ.rank (κ.extend (t.label (link_at g k).from) (link_at g k)) ≡ κ.rank (κ.extend (s.label (link_at g k).from) (link_at g k))
  from_rank k = ap (λ (x : L). κ.rank (κ.extend x (link_at g k))) (st.label (link_at g k).from)

  -- a waiting message waits still, or was no better than the label at its link's end
  abbrev pub Accounted : Type 0
  Accounted = (k : ℕ) (l : L) → Memᴰ (record { along = k; carried = l }) s.waiting → Memᴰ (record { along = k; carried = l }) t.waiting ⊎ (κ.rank (s.label (link_at g k).to) ≤ κ.rank l)

  -- Where messages are accounted for, a link that was relaxed is: by the label at its end as before, or by a message that
  -- waits still, or, where that is gone, by the label at its end, which is at least as good as the message's was.
  pub still_relaxed : Accounted → (k : ℕ) → k < length g.links → k < s.next (link_at g k).from → LinkRelaxed κ g t.label t.waiting k
  still_relaxed there k h b = elim (i.relaxed k h b) [
    | inl q ↦ inl (omega (arith, to_rank k, from_rank k))
    | inr q ↦ elim (there k q.0 q.1) [
      | inl r ↦ inr (q.0, r, omega (arith, from_rank k))
      | inr r ↦ inl (omega (arith, to_rank k, from_rank k))
    ]
  ]

  pub all_wait : t.waiting ≡ s.waiting → Accounted
  all_wait e k l h = inl (rw e h)

-- The message that is gone was no better than the label at its link's end. The node that it reached is active, so
-- nothing is asked of its next link.
module _ {L : Type 0} (κ : Kind L) (g : Graph) (laws : Lawful κ) (k : ℕ) (l : L) (s t : State L) (p : Declined Better κ g k l s t) (i : Invariants κ g s) where
  accounted : Accounted κ g laws s t i p.steady
  accounted j m h = elim (more_only p.taken h) [
    | inl e ↦ inr (omega (arith, ap (λ (x : Message L). κ.rank x.carried) e, ap (λ (x : Message L). κ.rank (s.label (link_at g x.along).to)) e))
    | inr r ↦ inl r
  ]

  resting : Resting κ g t
  resting w h f = elim (ℕ_discrete w (link_at g k).to) [
    | yes e ↦ cc p.active
    | no n ↦ p.next w ∙ i.resting w h (sym (p.others w n) ∙ f)
  ]

  pub declined_keeps : Invariants κ g t
  declined_keeps = record {
    rooted = steady_rooted κ g laws p.steady i.rooted;
    carried = λ x h. carried_on κ g laws s t i p.steady x (i.carried x (more_keeps p.taken h));
    relaxed = λ j h b. still_relaxed κ g laws s t i p.steady accounted j h (omega (arith, p.next (link_at g j).from));
    resting = resting;
  }

module _ {L : Type 0} (κ : Kind L) (g : Graph) (laws : Lawful κ) (s t : State L) (p : AllKept s t) (i : Invariants κ g s) where
  steady : LabelsKept s t
  steady = record { label = λ w. (p.nodes w).label; parent = λ w. (p.nodes w).parent }

  pub stayed_keeps : Invariants κ g t
  stayed_keeps = record {
    rooted = steady_rooted κ g laws steady i.rooted;
    carried = λ x h. carried_on κ g laws s t i steady x (i.carried x (rw p.waiting at h));
    relaxed = λ k h b. still_relaxed κ g laws s t i steady (all_wait κ g laws s t i steady p.waiting) k h (omega (arith, (p.nodes (link_at g k).from).next));
    resting = λ w h f. (p.nodes w).next ∙ i.resting w h (sym (p.nodes w).active ∙ f);
  }
