-- Steps that can be made, each with the state after it, where at most one message waits.
use Rattle.std.proofs.Common.{◌≡◌, ℕ, suc, ◌<◌, ◌≤◌, true, false, if◌then◌else◌, nat_eq, ◌≢◌, [], ◌∷◌, length, Some, refl, arith}
use Rattle.std.proofs.lemmas.Bool.{eq-eqb, ne_eqb}
use Rattle.label.specs.Kinds.{Kind}
use Rattle.label.specs.Paths.{Graph, link_at}
use Rattle.routing.specs.States.{State}
use Rattle.routing.specs.Protocol.{Adopted, Declined, Sent, Idled}

-- f, but x at v
abbrev pub at_node : {A : Type 0} → ℕ → A → (ℕ → A) → ℕ → A
at_node v x f w = if nat_eq w v then x else f w

at_there : {A : Type 0} (v : ℕ) (x : A) (f : ℕ → A) → at_node v x f v ≡ x
at_there v x f = rw (eq-eqb v v refl)

pub at_others : {A : Type 0} (v : ℕ) (x : A) (f : ℕ → A) (w : ℕ) → w ≢ v → at_node v x f w ≡ f w
at_others v x f w n = rw (ne_eqb w v n)

module _ (Wins : ℕ → ℕ → Type 0) {L : Type 0} (κ : Kind L) (g : Graph) (k : ℕ) (l : L) (s : State L) where
  -- the message arrives and its label is adopted
  abbrev pub after_adopting : State L
  after_adopting = record {
    label = at_node (link_at g k).to l s.label;
    parent = at_node (link_at g k).to (Some k) s.parent;
    next = at_node (link_at g k).to 0 s.next;
    active = at_node (link_at g k).to true s.active;
    waiting = [];
  }

  pub adopted : s.waiting ≡ record { along = k; carried = l } ∷ [] → Wins (κ.rank l) (κ.rank (s.label (link_at g k).to)) → Adopted Wins κ g k l s after_adopting
  adopted e h = record {
    taken = record { front = []; back = []; without = refl; with = e };
    wins = h;
    label = at_there _ _ s.label;
    parent = at_there _ _ s.parent;
    next = at_there _ _ s.next;
    active = at_there _ _ s.active;
    others = λ w n. record {
      label = at_others _ _ s.label w n;
      parent = at_others _ _ s.parent w n;
      next = at_others _ _ s.next w n;
      active = at_others _ _ s.active w n;
    };
  }

  -- the message arrives and its label is declined
  abbrev pub after_declining : State L
  after_declining = record { label = s.label; parent = s.parent; next = s.next; active = at_node (link_at g k).to true s.active; waiting = [] }

  pub declined : s.waiting ≡ record { along = k; carried = l } ∷ [] → (Wins (κ.rank l) (κ.rank (s.label (link_at g k).to)) → ⊥) → Declined Wins κ g k l s after_declining
  declined e h = record {
    taken = record { front = []; back = []; without = refl; with = e };
    loses = h;
    steady = record { label = λ w. refl; parent = λ w. refl };
    next = λ w. refl;
    active = at_there _ _ s.active;
    others = λ w n. at_others _ _ s.active w n;
  }

module _ {L : Type 0} (κ : Kind L) (g : Graph) (k : ℕ) (l : L) (s : State L) where
  -- the label is sent on link k, the first that leaves its from node
  abbrev pub after_sending : State L
  after_sending = record {
    label = s.label;
    parent = s.parent;
    next = at_node (link_at g k).from (suc k) s.next;
    active = s.active;
    waiting = record { along = k; carried = l } ∷ [];
  }

  pub sent :
      s.waiting ≡ []
      → s.active (link_at g k).from ≡ true
      → s.next (link_at g k).from ≤ k
      → k < length g.links
      → ((j : ℕ) → j < k → (link_at g j).from ≢ (link_at g k).from)
      → l ≡ κ.extend (s.label (link_at g k).from) (link_at g k)
      → Sent κ g (link_at g k).from k l s after_sending
  sent e a b c f x = record {
    was_active = a;
    onward = b;
    real = c;
    leaves = refl;
    first = λ j past before. f j (omega arith);
    extends = cc x;
    put = record { front = []; back = []; without = e; with = refl };
    steady = record { label = λ w. refl; parent = λ w. refl };
    next = at_there _ _ s.next;
    active = λ w. refl;
    others = λ w n. at_others _ _ s.next w n;
  }

module _ {L : Type 0} (g : Graph) (v : ℕ) (s : State L) where
  -- the node has no link to send on
  abbrev pub after_idling : State L
  after_idling = record { label = s.label; parent = s.parent; next = at_node v (length g.links) s.next; active = at_node v false s.active; waiting = s.waiting }

  pub idled : s.active v ≡ true → ((j : ℕ) → s.next v ≤ j → j < length g.links → (link_at g j).from ≢ v) → Idled g v s after_idling
  idled a f = record {
    was_active = a;
    done = λ j past real. f j past (omega arith);
    steady = record { label = λ w. refl; parent = λ w. refl };
    next = at_there _ _ s.next;
    active = at_there _ _ s.active;
    waiting = refl;
    others = λ w n. (at_others _ _ s.next w n, at_others _ _ s.active w n);
  }
