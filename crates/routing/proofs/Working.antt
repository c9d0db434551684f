-- Work at a node keeps the invariants: it sends on its next link, or has none left.
use Rattle.std.proofs.Common.{◌≡◌, ℕ, ◌<◌, length, sym, ap, ◌∙◌, subst, inl, inr, arith}
use mathlib.Core.List.{Memᴰ}
use native.Mathlib.Decide.{ℕ_discrete, dec_lt}
use Rattle.label.specs.Kinds.{Kind, Lawful}
use Rattle.label.specs.Paths.{Graph, link_at}
use Rattle.routing.specs.States.{Message, State}
use Rattle.routing.specs.Protocol.{Sent, Idled}
use Rattle.routing.proofs.Lists.{more_has, more_keeps, more_only}
use Rattle.routing.proofs.Accepted.{Accepted}
use Rattle.routing.proofs.Invariant.{Carried, LinkRelaxed, Relaxed, Resting, Invariants, made_extend, steady_rooted}
use Rattle.routing.proofs.Keeping.{carried_on, from_rank, still_relaxed, all_wait}

module _ {L : Type 0} (κ : Kind L) (g : Graph) (laws : Lawful κ) (ok : Accepted g) (v k : ℕ) (l : L) (s t : State L) (p : Sent κ g v k l s t) (i : Invariants κ g s) where
  sender : κ.extend (s.label (link_at g k).from) (link_at g k) ≡ l
  sender = cc (ap s.label p.leaves, p.extends)

  -- The new message carries what its link makes of the sender's label, which is from a path.
  fresh : Carried κ g s.label (record { along = k; carried = l })
  fresh = record {
    real = p.real;
    made = rw sender at (made_extend κ g laws k _ p.real (i.rooted.made _ (ok.from_in k p.real)));
    late = omega (arith, ap κ.rank sender);
  }

  carried : (x : Message L) → Memᴰ x t.waiting → Carried κ g t.label x
  carried x h = carried_on κ g laws s t i p.steady x (elim (more_only p.put h) [ inl e ↦ rw e fresh | inr r ↦ i.carried x r ])

  old : (j : ℕ) → j < length g.links → j < s.next (link_at g j).from → LinkRelaxed κ g t.label t.waiting j
  old = still_relaxed κ g laws s t i p.steady (λ j m h. inl (more_keeps p.put h))

  -- A link before the node's old next link was relaxed, and is. The link k is relaxed by the new message. Between them no
  -- link leaves the node, since k was the first that does.
  relaxed : Relaxed κ g t.label t.next t.waiting
  relaxed j h b = elim (ℕ_discrete (link_at g j).from v) [
    | no n ↦ old j h (omega (arith, p.others (link_at g j).from n))
    | yes e ↦ elim (dec_lt j (s.next (link_at g j).from)) [
      | yes before ↦ old j h before
      | no past ↦ elim (ℕ_discrete j k) [
        | yes f ↦
            let waits = subst (λ (x : ℕ). Memᴰ (record { along = x; carried = l }) t.waiting) (sym f) (more_has p.put) in
            inr (l, waits, omega (arith, ap κ.rank sender, ap (λ (x : ℕ). κ.rank (κ.extend (s.label (link_at g x).from) (link_at g x))) f, from_rank κ g laws s t i p.steady j))
        | no other ↦ absurd (p.first j (omega (arith, ap s.next e)) (omega (arith, ap t.next e)) e)
      ]
    ]
  ]

  -- The sender was active and is.
  resting : Resting κ g t
  resting w h f = elim (ℕ_discrete w v) [
    | yes e ↦ cc (p.active v, p.was_active)
    | no n ↦ p.others w n ∙ i.resting w h (sym (p.active w) ∙ f)
  ]

  pub sent_keeps : Invariants κ g t
  sent_keeps = record { rooted = steady_rooted κ g laws p.steady i.rooted; carried = carried; relaxed = relaxed; resting = resting }

module _ {L : Type 0} (κ : Kind L) (g : Graph) (laws : Lawful κ) (v : ℕ) (s t : State L) (p : Idled g v s t) (i : Invariants κ g s) where
  still : (j : ℕ) → j < length g.links → j < s.next (link_at g j).from → LinkRelaxed κ g t.label t.waiting j
  still = still_relaxed κ g laws s t i p.steady (all_wait κ g laws s t i p.steady p.waiting)

  -- A link before the node's old next link was relaxed, and is; from there on no link leaves the node.
  all_relaxed : Relaxed κ g t.label t.next t.waiting
  all_relaxed j h b = elim (ℕ_discrete (link_at g j).from v) [
    | no n ↦ still j h (omega (arith, (p.others (link_at g j).from n).0))
    | yes e ↦ elim (dec_lt j (s.next (link_at g j).from)) [
      | yes before ↦ still j h before
      | no past ↦ absurd (p.done j (omega (arith, ap s.next e)) (omega arith) e)
    ]
  ]

  rests : Resting κ g t
  rests w h f = elim (ℕ_discrete w v) [
    | yes e ↦ ap t.next e ∙ p.next
    | no n ↦ (p.others w n).0 ∙ i.resting w h (sym (p.others w n).1 ∙ f)
  ]

  pub idled_keeps : Invariants κ g t
  idled_keeps = record {
    rooted = steady_rooted κ g laws p.steady i.rooted;
    carried = λ x h. carried_on κ g laws s t i p.steady x (i.carried x (rw p.waiting at h));
    relaxed = all_relaxed;
    resting = rests;
  }
