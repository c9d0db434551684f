-- A node that adopts a better label keeps the invariants.
use Rattle.std.proofs.Common.{◌≡◌, ℕ, ◌<◌, ◌≤◌, ◌≢◌, List, [], ◌∷◌, Some, sym, ap, ◌∙◌, subst, inl, inr, arith}
use native.Mathlib.Decide.{ℕ_discrete}
use Rattle.label.specs.Kinds.{Kind, Lawful}
use Rattle.label.specs.Paths.{Graph, link_at}
use Rattle.routing.specs.States.{Message, State}
use Rattle.routing.specs.Protocol.{Better, Adopted}
use Rattle.routing.specs.Routes.{Parents}
use Rattle.routing.proofs.Lists.{more_has, more_keeps, more_only}
use Rattle.routing.proofs.Accepted.{Accepted}
use Rattle.routing.proofs.Invariant.{FromPath, Linked, Carried, Relaxed, Resting, Invariants, made_least, carried_better}

module _ {L : Type 0} (κ : Kind L) (g : Graph) (laws : Lawful κ) (ok : Accepted g) (k : ℕ) (l : L) (s t : State L) (a : Adopted Better κ g k l s t) (i : Invariants κ g s) where
  -- the node that adopts, and the one that sent
  abbrev at : ℕ
  at = (link_at g k).to

  abbrev sender : ℕ
  sender = (link_at g k).from

  abbrev message : Message L
  message = record { along = k; carried = l }

  arrived : Carried κ g s.label message
  arrived = i.carried message (more_has a.taken)

  here_label : {w : ℕ} → w ≡ at → t.label w ≡ l
  here_label e = ap t.label e ∙ a.label

  -- Labels only improve: at the adopting node by the rule of adoption, elsewhere nothing changes.
  better : (w : ℕ) → κ.rank (t.label w) ≤ κ.rank (s.label w)
  better w = elim (ℕ_discrete w at) [
    | yes e ↦ omega (arith, ap κ.rank (here_label e), ap (λ (x : ℕ). κ.rank (s.label x)) e)
    | no n ↦ omega (arith, ap κ.rank (a.others w n).label)
  ]

  -- The root adopts nothing: it has start, and no label of a path is better.
  not_root : g.root ≢ at
  not_root e = omega (arith, ap (λ (x : ℕ). κ.rank (s.label x)) e, ap κ.rank i.rooted.root_label, made_least κ g laws at l arrived.made)

  made : (w : ℕ) → w < g.nodes → FromPath κ g w (t.label w)
  made w h = elim (ℕ_discrete w at) [
    | yes e ↦ rw (here_label e, e) arrived.made
    | no n ↦ rw (a.others w n).label (i.rooted.made w h)
  ]

  -- The new parent link is linked since the message was carried. Any other was linked before; by the third law it is
  -- so with better labels at its from node.
  linked : (w j : ℕ) → w < g.nodes → t.parent w ≡ Some j → Linked κ g t.label w j
  linked w j h p = elim (ℕ_discrete w at) [
    | yes e ↦
        let same : k ≡ j = cc (ap t.parent e, a.parent, p) in
        subst (Linked κ g t.label w) same (record {
          real = arrived.real;
          to_here = sym e;
          good = omega (arith, arrived.late, ap κ.rank (here_label e), laws.keeps _ _ (link_at g k) (better sender));
        })
    | no n ↦
        let o = i.rooted.linked w j h (sym (a.others w n).parent ∙ p) in
        record {
          real = o.real;
          to_here = o.to_here;
          good = omega (arith, ap κ.rank (a.others w n).label, laws.keeps _ _ (link_at g j) (better (link_at g j).from));
        }
  ]

  apart : (w : ℕ) → κ.rank (s.label w) < κ.rank (s.label at) → w ≢ at
  apart w b e = omega (arith, ap (λ (x : ℕ). κ.rank (s.label x)) e)

  -- A chain of parents that starts at a node better than the adopting one was does not go through it. Going up, a
  -- parent's label is never worse (linked, and the fourth law), so every node of the chain is better than the adopting
  -- one was, and none of them is it. Hence the chain is as before.
  keep : (ks : List ℕ) (w : ℕ) → w < g.nodes → κ.rank (s.label w) < κ.rank (s.label at) → Parents g s.parent ks w → Parents g t.parent ks w
  keep [] w h b (e, p) = (e, (a.others w (apart w b)).parent ∙ p)
  keep (j ∷ ks) w h b (p, q) =
      let o = i.rooted.linked w j h p in
      ((a.others w (apart w b)).parent ∙ p, keep ks (link_at g j).from (ok.from_in j o.real) (omega (arith, laws.never (s.label (link_at g j).from) (link_at g j))) q)

  -- The sender is strictly better than the adopting node was: its label is at least as good as the message's, which won.
  -- So its chain is as before, and with the new parent link in front it is the adopting node's.
  new_chain : (ks : List ℕ) × Parents g t.parent ks at
  new_chain =
      let below : κ.rank (s.label sender) < κ.rank (s.label at) = omega (arith, arrived.late, laws.never (s.label sender) (link_at g k)) in
      let o = i.rooted.up sender (ok.from_in k arrived.real) (omega (arith, laws.worst (s.label at))) in
      let first : t.parent at ≡ Some k = cc a.parent in
      (k ∷ o.0, (first, keep o.0 sender (ok.from_in k arrived.real) below o.1))

  here_chain : {w : ℕ} → w ≡ at → (ks : List ℕ) × Parents g t.parent ks w
  here_chain e = (new_chain.0, rw e new_chain.1)

  -- Any other chain goes on as before up to the adopting node, if it goes through it, and from there takes the new one.
  redirect : (ks : List ℕ) (w : ℕ) → Parents g s.parent ks w → (js : List ℕ) × Parents g t.parent js w
  redirect [] w (e, p) = ([], (e, (a.others w (λ f. not_root (sym e ∙ f))).parent ∙ p))
  redirect (j ∷ ks) w (p, q) =
      let r = redirect ks (link_at g j).from q in
      elim (ℕ_discrete w at) [ yes e ↦ here_chain e | no n ↦ (j ∷ r.0, ((a.others w n).parent ∙ p, r.1)) ]

  up : (w : ℕ) → w < g.nodes → κ.rank (t.label w) < κ.rank κ.none → (ks : List ℕ) × Parents g t.parent ks w
  up w h b = elim (ℕ_discrete w at) [
    | yes e ↦ here_chain e
    | no n ↦ (let o = i.rooted.up w h (omega (arith, ap κ.rank (a.others w n).label)) in redirect o.0 w o.1)
  ]

  -- The adopting node has all its links still to send on. Of any other link the from node is as before, and the label at
  -- its end only improves; where the message taken was the one that relaxed it, its label is at the end now.
  relaxed : Relaxed κ g t.label t.next t.waiting
  relaxed j h b = elim (ℕ_discrete (link_at g j).from at) [
    | yes e ↦ absurd (omega (arith, ap t.next e))
    | no n ↦
        let o = a.others (link_at g j).from n in
        let same : κ.rank (κ.extend (t.label (link_at g j).from) (link_at g j)) ≡ κ.rank (κ.extend (s.label (link_at g j).from) (link_at g j)) = ap (λ (x : L). κ.rank (κ.extend x (link_at g j))) o.label in
        elim (i.relaxed j h (omega arith)) [
          | inl q ↦ inl (omega (arith, better (link_at g j).to))
          | inr q ↦ elim (more_only a.taken q.1) [
            | inl e ↦ inl (omega (arith, ap κ.rank (ap (λ (x : Message L). x.carried) e), ap κ.rank (here_label (ap (λ (x : Message L). (link_at g x.along).to) e))))
            | inr r ↦ inr (q.0, r, omega arith)
          ]
        ]
  ]

  resting : Resting κ g t
  resting w h p = elim (ℕ_discrete w at) [
    | yes e ↦ cc a.active
    | no n ↦ (a.others w n).next ∙ i.resting w h (sym (a.others w n).active ∙ p)
  ]

  pub adopted_keeps : Invariants κ g t
  adopted_keeps = record {
    rooted = record {
      root_label = (a.others g.root not_root).label ∙ i.rooted.root_label;
      root_parent = (a.others g.root not_root).parent ∙ i.rooted.root_parent;
      made = made;
      linked = linked;
      up = up;
    };
    carried = λ x h. carried_better κ g laws s.label t.label better x (i.carried x (more_keeps a.taken h));
    relaxed = relaxed;
    resting = resting;
  }
