-- The invariants: what every reached state keeps.
use Rattle.std.proofs.Common.{◌≡◌, ℕ, ◌<◌, ◌≤◌, false, ◌⊎◌, List, [], ◌∷◌, length, Some, None, Option, sym, refl, ap, ◌∙◌, subst, subst₂, inl, inr, append-nil, arith}
use mathlib.Core.Path.{fun_ext}
use mathlib.Core.List.{Memᴰ}
use Rattle.label.specs.Kinds.{Kind, Lawful}
use Rattle.label.specs.Paths.{Graph, link_at, Leads, path_label}
use Rattle.label.proofs.Bests.{none_stays, never_better}
use Rattle.routing.specs.States.{Message, State}
use Rattle.routing.specs.Protocol.{LabelsKept}
use Rattle.routing.specs.Routes.{Parents}

module _ {L : Type 0} (κ : Kind L) (g : Graph) where
  -- From a path: l is none or the label of a path to v.
  abbrev pub FromPath : ℕ → L → Type 0
  FromPath v l = (l ≡ κ.none) ⊎ ((ks : List ℕ) × Leads g ks v × (path_label κ g ks ≡ l))

  -- Linked: k is a link to w, and what it makes of the label at its from node is at least as good as w's label.
  pub record Linked (label : ℕ → L) (w k : ℕ) : Type 0 where
    pub real : k < length g.links
    pub to_here : (link_at g k).to ≡ w
    pub good : κ.rank (κ.extend (label (link_at g k).from) (link_at g k)) ≤ κ.rank (label w)

  -- Rooted: the root keeps start and has no parent; labels are from paths; parents are linked; and from each node whose
  -- label is not none the parents lead to the root.
  pub record Rooted (label : ℕ → L) (parent : ℕ → Option ℕ) : Type 0 where
    pub root_label : label g.root ≡ κ.start
    pub root_parent : parent g.root ≡ None
    pub made : (v : ℕ) → v < g.nodes → FromPath v (label v)
    pub linked : (v k : ℕ) → v < g.nodes → parent v ≡ Some k → Linked label v k
    pub up : (v : ℕ) → v < g.nodes → κ.rank (label v) < κ.rank κ.none → (ks : List ℕ) × Parents g parent ks v

  -- Carried: a message is on a link, its label is from a path, and what its link makes of the label that its from node
  -- has by now is at least as good.
  pub record Carried (label : ℕ → L) (x : Message L) : Type 0 where
    pub real : x.along < length g.links
    pub made : FromPath (link_at g x.along).to x.carried
    pub late : κ.rank (κ.extend (label (link_at g x.along).from) (link_at g x.along)) ≤ κ.rank x.carried

  -- Relaxed, of link k: the label at its end, or that of a message waiting on it, is at least as good as what the link
  -- makes of the label at its from node.
  abbrev pub LinkRelaxed : (ℕ → L) → List (Message L) → ℕ → Type 0
  LinkRelaxed label waiting k =
      (κ.rank (label (link_at g k).to) ≤ κ.rank (κ.extend (label (link_at g k).from) (link_at g k)))
      ⊎ ((l : L) × Memᴰ (record { along = k; carried = l }) waiting × (κ.rank l ≤ κ.rank (κ.extend (label (link_at g k).from) (link_at g k))))

  -- Relaxed: every link before its from node's next link is.
  abbrev pub Relaxed : (ℕ → L) → (ℕ → ℕ) → List (Message L) → Type 0
  Relaxed label next waiting = (k : ℕ) → k < length g.links → k < next (link_at g k).from → LinkRelaxed label waiting k

  -- Resting: a passive node has nothing to send.
  abbrev pub Resting : State L → Type 0
  Resting s = (v : ℕ) → v < g.nodes → s.active v ≡ false → s.next v ≡ length g.links

  pub record Invariants (s : State L) : Type 0 where
    pub rooted : Rooted s.label s.parent
    pub carried : (x : Message L) → Memᴰ x s.waiting → Carried s.label x
    pub relaxed : Relaxed s.label s.next s.waiting
    pub resting : Resting s

module _ {L : Type 0} (κ : Kind L) (g : Graph) (laws : Lawful κ) where
  -- A path goes on from the empty path, whose label is start, and never gets better; none is the worst.
  pub made_least : (v : ℕ) (l : L) → FromPath κ g v l → κ.rank κ.start ≤ κ.rank l
  made_least v l (inl e) = rw e (laws.worst κ.start)
  made_least v l (inr (ks, q, e)) = subst (λ (x : L). κ.rank κ.start ≤ κ.rank x) (ap (path_label κ g) (append-nil ks) ∙ e) (never_better κ laws g ks [])

  -- A link makes of the label of a path that of the path with the link; of none it makes none.
  pub made_extend : (k : ℕ) (l : L) → k < length g.links → FromPath κ g (link_at g k).from l → FromPath κ g (link_at g k).to (κ.extend l (link_at g k))
  made_extend k l h (inl e) = inl (ap (λ (x : L). κ.extend x (link_at g k)) e ∙ none_stays κ laws (link_at g k))
  made_extend k l h (inr p) = inr (k ∷ p.0, (h, refl, p.1), ap (λ (x : L). κ.extend x (link_at g k)) p.2)

  -- Rooted speaks of labels and parents alone.
  pub steady_rooted : {s t : State L} → LabelsKept s t → Rooted κ g s.label s.parent → Rooted κ g t.label t.parent
  steady_rooted st r = subst₂ (λ (f : ℕ → L) (p : ℕ → Option ℕ). Rooted κ g f p) (fun_ext (λ w. sym (st.label w))) (fun_ext (λ w. sym (st.parent w))) r

  -- Where labels only improve, messages stay carried: by the third law, what the link makes of the sender's label only
  -- improves.
  pub carried_better : (f h : ℕ → L) → ((w : ℕ) → κ.rank (h w) ≤ κ.rank (f w)) → (x : Message L) → Carried κ g f x → Carried κ g h x
  carried_better f h better x c = record {
    real = c.real;
    made = c.made;
    late = omega (arith, laws.keeps _ _ (link_at g x.along) (better (link_at g x.along).from));
  }
