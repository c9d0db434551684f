-- Each call of the tree keeps the balance, over tables.
use Rattle.std.specs.Prelude.{◌≡◌, ℕ, ◌+◌, ◌<◌, Bool, true, false, if◌then◌else◌, not, ◌≢◌, List, [], ◌∷◌, length, set, Some, None, Option, ◌==◌, nat_eq, slice_set, refl}
use Rattle.std.proofs.Common.{sym, ap, subst, ◌∙◌, inl, inr, arith}
use Rattle.std.proofs.lemmas.List.{set-get_or, set-set, get_or-set_same, get_or-set_other, length-set}
use Rattle.std.proofs.lemmas.Bool.{both_ways, true≢false, cond-true, cond-false, eq-eqb, ne_eqb, eqb-true, eqb-false, cases_lt, cases_eq, and_parts, and_from, not-true, not_from_false}
use Rattle.detector.specs.Laws.{with_answer, answered}
use Rattle.tree.specs.declared.node.Node.{Node}
use Rattle.tree.specs.declared.node.Outcome.{Outcome}
use Rattle.tree.specs.declared.node.Outcome.TheVariants.{Left}
use Rattle.tree.specs.Rules.{blank, first, node_at, raised, lowered, resting, woken, joining, left, done, settled, leaving}
use Rattle.tree.specs.Steps.{signal_of, announced_by}
use Rattle.tree.specs.Balance.{hit, hits, tree_parent, parent_hit, child, some_hit, has_parent, Fits, Loose, Waits, Balanced, owed}
use Rattle.tree.specs.Tables.{each_set, hit_same, hit_other, hits_cons, with_parent_set, deficits_set}
use Rattle.tree.specs.Family.{outside_parent, child_counts, no_children, none_with_parent}
use Rattle.tree.specs.Endings.{too_soon_never}

pub by_bool : (b : Bool) (P : Bool → Type 0) → (b ≡ true → P true) → (b ≡ false → P false) → P b
by_bool true P yes_case no_case = yes_case refl
by_bool false P yes_case no_case = no_case refl

-- in balance once the item answered waits too, which is owed no more
abbrev pub Lands : (nodes root : ℕ) (announced : Bool) (rs : List Node) (marks items : List ℕ) → ℕ → Option ℕ → Type 0
Lands nodes root announced rs marks items owe item = Balanced nodes root announced rs marks (with_answer item items) × (owed rs marks + answered item ≡ owe)

-- the ranks once node i has joined below m
abbrev raised_rank : (ℕ → ℕ) → ℕ → ℕ → ℕ → ℕ
raised_rank rank i m k = if k == i then rank m + 1 else rank k

module _ (nodes root : ℕ) (announced : Bool) (rs : List Node) (i : ℕ) (lt : i < length rs) where
  -- Sent. The new mark names the sender, whose deficit has risen by one; nothing else of the tree changes.
  pub sent_keeps : (marks items : List ℕ) → (node_at rs i).active ≡ true → Balanced nodes root announced rs marks items → Balanced nodes root announced (slice_set rs i (raised (node_at rs i))) (i ∷ marks) items
  sent_keeps marks items act b =
      let r = node_at rs i in
      let f = b.loose.fits i in
      record {
        loose = record {
          rank = b.loose.rank;
          fits = each_set (Fits nodes root announced b.loose.rank) rs i (raised r) lt (λ k ne. b.loose.fits k) (record {
            outside = λ e. absurd (both_ways r.active (f.outside e).0 act);
            above = f.above;
            parentless = f.parentless;
            top = f.top;
            absent = f.absent;
            announces = f.announces;
          });
          deficits = deficits_set rs marks items i (raised r) (i ∷ marks) items lt b.loose.deficits
              (λ n ne. omega (arith, hits_cons n i marks, hit_other n i ne))
              (omega (arith, hits_cons i i marks, hit_same i));
        };
        waits = each_set (λ k x. Waits x) rs i (raised r) lt (λ k ne. b.waits k) (λ e p. omega arith);
      }

  -- Received by an engaged node. The mark becomes a signal to the same node, so every deficit is counted as before.
  pub woken_keeps : (m : ℕ) (marks items : List ℕ) → (node_at rs i).engaged ≡ true → Balanced nodes root announced rs (m ∷ marks) items → Balanced nodes root announced (slice_set rs i (woken (node_at rs i))) marks (m ∷ items)
  woken_keeps m marks items eng b =
      let r = node_at rs i in
      let f = b.loose.fits i in
      record {
        loose = record {
          rank = b.loose.rank;
          fits = each_set (Fits nodes root announced b.loose.rank) rs i (woken r) lt (λ k ne. b.loose.fits k) (record {
            outside = λ e. absurd (both_ways r.engaged e eng);
            above = f.above;
            parentless = f.parentless;
            top = f.top;
            absent = f.absent;
            announces = f.announces;
          });
          deficits = deficits_set rs (m ∷ marks) items i (woken r) marks (m ∷ items) lt b.loose.deficits
              (λ n ne. omega (arith, hits_cons n m marks, hits_cons n m items))
              (omega (arith, hits_cons i m marks, hits_cons i m items));
        };
        waits = each_set (λ k x. Waits x) rs i (woken r) lt (λ k ne. b.waits k) (λ e p. absurd (true≢false p));
      }

  -- Received by any other node. It joins below the sender m: in m's deficit the child takes the place of the mark. The
  -- node had no deficit, so it is neither m nor anybody's parent, and its rank may be raised above m's. It is not the
  -- root: the root outside the tree would have announced, and then no mark would wait.
  pub joining_keeps : (m : ℕ) (marks items : List ℕ) → i < nodes → (node_at rs i).engaged ≡ false → Balanced nodes root announced rs (m ∷ marks) items → Balanced nodes root announced (slice_set rs i (joining (node_at rs i) m)) marks items
  joining_keeps m marks items inside free b =
      let r = node_at rs i in
      let f = b.loose.fits i in
      let rank = b.loose.rank in
      let old = b.loose.deficits in
      let still : r.deficit ≡ 0 = (f.outside free).1 in
      let lone_child : (n : ℕ) → child n r ≡ 0 = λ n. ap (parent_hit n) (outside_parent r free) in
      let not_root : i ≢ root = λ e.
      let rest : m ∷ marks ≡ [] = (too_soon_never nodes root announced rs (m ∷ marks) items b.loose (f.announces e ∙ ap not free)).1 in
      cc in
      let apart : m ≢ i = λ e. let d : hits i (m ∷ marks) ≡ hits i (i ∷ marks) = ap (λ j. hits i (j ∷ marks)) e in
      omega (arith, old i, still, hits_cons i i marks, hit_same i, d) in
      let up : ℕ → ℕ = raised_rank rank i m in
      let up_here : up i ≡ rank m + 1 = cond-true (i == i) _ _ (eq-eqb i i refl) in
      let up_other : (k : ℕ) → k ≢ i → up k ≡ rank k = λ k ne. cond-false (k == i) _ _ (ne_eqb k i ne) in
      record {
        loose = record {
          rank = up;
          fits = each_set (Fits nodes root announced up) rs i (joining r m) lt
              (λ k ne. let h = b.loose.fits k in record {
                outside = h.outside;
                above = λ p e.
                    let other : p ≢ i = λ same. omega (arith, child_counts rs k i (e ∙ ap Some same), old i, still) in
                    omega (arith, h.above p e, up_other k ne, up_other p other);
                parentless = h.parentless;
                top = h.top;
                absent = h.absent;
                announces = h.announces;
              })
              (record {
                outside = λ e. absurd (true≢false e);
                above = λ p e. let same : m ≡ p = cc in omega (arith, up_here, up_other m apart, ap up same);
                parentless = λ _ e. cc;
                top = λ e. absurd (not_root e);
                absent = λ far. absurd (omega arith);
                announces = λ e. absurd (not_root e);
              });
          deficits = deficits_set rs (m ∷ marks) items i (joining r m) marks items lt old
              (λ n ne. omega (arith, hits_cons n m marks, lone_child n))
              (omega (arith, hits_cons i m marks, lone_child i));
        };
        waits = each_set (λ k x. Waits x) rs i (joining r m) lt (λ k ne. b.waits k) (λ e p. absurd (true≢false p));
      }

  -- what is known of a node that is to leave
  record Ready : Type 0 where
    on : (node_at rs i).engaged ≡ true
    passive : (node_at rs i).active ≡ false
    empty : (node_at rs i).deficit ≡ 0

  ready_parts : done (node_at rs i) ≡ true → Ready
  ready_parts ready =
      let r = node_at rs i in
      let parts = and_parts r.engaged _ ready in
      let more = and_parts (not r.active) _ parts.1 in
      record { on = parts.0; passive = not-true _ more.0; empty = eqb-true r.deficit 0 more.1 }

  -- The record of a node that has left has its place outside the tree, whatever the tree has announced of the root.
  left_fits : (rank : ℕ → ℕ) (a : Bool) → Ready → (i ≡ root → a ≡ true) → Fits nodes root a rank i (left (node_at rs i))
  left_fits rank a h tells = record {
    outside = λ _. (h.passive, h.empty);
    above = λ q e. cc;
    parentless = λ e _. absurd (true≢false (sym e));
    top = λ _. refl;
    absent = λ _. refl;
    announces = tells;
  }

  -- A node that is not the root leaves: in its parent's deficit the signal takes the place of the child.
  leaf_keeps : (marks items : List ℕ) (p : ℕ) → Ready → i ≢ root → tree_parent (node_at rs i) ≡ Some p → Loose nodes root announced rs marks items → ((k : ℕ) → k ≢ i → Waits (node_at rs k)) → Balanced nodes root announced (slice_set rs i (left (node_at rs i))) marks (p ∷ items)
  leaf_keeps marks items p h not_root e b others =
      let r = node_at rs i in
      let child_is : (n : ℕ) → child n r ≡ hit n p = λ n. ap (parent_hit n) e in
      record {
        loose = record {
          rank = b.rank;
          fits = each_set (Fits nodes root announced b.rank) rs i (left r) lt (λ k ne. b.fits k) (left_fits b.rank announced h (λ same. absurd (not_root same)));
          deficits = deficits_set rs marks items i (left r) marks (p ∷ items) lt b.deficits
              (λ n ne. omega (arith, hits_cons n p items, child_is n))
              (omega (arith, hits_cons i p items, child_is i, h.empty));
        };
        waits = each_set (λ k x. Waits x) rs i (left r) lt others (λ e' _. absurd (true≢false (sym e')));
      }

  -- The root leaves and announces; it has no parent, so no deficit counts it.
  root_keeps : (marks items : List ℕ) → i ≡ root → Ready → Loose nodes root announced rs marks items → ((k : ℕ) → k ≢ i → Waits (node_at rs k)) → Balanced nodes root true (slice_set rs i (left (node_at rs i))) marks items
  root_keeps marks items is_root h b others =
      let r = node_at rs i in
      let child_is : (n : ℕ) → child n r ≡ 0 = λ n. ap (parent_hit n) ((b.fits i).top is_root) in
      record {
        loose = record {
          rank = b.rank;
          fits = each_set (Fits nodes root true b.rank) rs i (left r) lt
              (λ k ne. let f = b.fits k in record {
                outside = f.outside;
                above = f.above;
                parentless = f.parentless;
                top = f.top;
                absent = f.absent;
                announces = λ same. absurd (ne (same ∙ sym is_root));
              })
              (left_fits b.rank true h (λ _. refl));
          deficits = deficits_set rs marks items i (left r) marks items lt b.deficits
              (λ n ne. omega (arith, child_is n))
              (omega (arith, child_is i, h.empty));
        };
        waits = each_set (λ k x. Waits x) rs i (left r) lt others (λ e _. absurd (true≢false (sym e)));
      }

  -- what settling leaves, where v says whether the node leaves and top whether it is the root
  abbrev Settles : List ℕ → List ℕ → Bool → Bool → Type 0
  Settles marks items v top =
      let r = node_at rs i in
      let o : Option Outcome = if v then Some Left else None in
      Lands nodes root (announced_by top announced o) (slice_set rs i (if v then left r else r)) marks items (owed rs marks) (signal_of top r.parent o)

  leaf_settles : (marks items : List ℕ) → i ≢ root → Ready → Loose nodes root announced rs marks items → ((k : ℕ) → k ≢ i → Waits (node_at rs k)) → (o : Option ℕ) → tree_parent (node_at rs i) ≡ o → Lands nodes root announced (slice_set rs i (left (node_at rs i))) marks items (owed rs marks) o
  leaf_settles marks items not_root h b others None e = absurd (not_root ((b.fits i).parentless h.on e))
  leaf_settles marks items not_root h b others (Some p) e =
      (leaf_keeps marks items p h not_root e b others, (let one : has_parent (node_at rs i) ≡ 1 = ap some_hit e in omega (arith, with_parent_set rs i (left (node_at rs i)) lt, one)))

  -- Settling mends the one node that could leave: it does, as the root or as a leaf, or it has to wait like all others.
  settles : (marks items : List ℕ) → Loose nodes root announced rs marks items → ((k : ℕ) → k ≢ i → Waits (node_at rs k)) → Settles marks items (done (node_at rs i)) (i == root)
  settles marks items b others =
      let r = node_at rs i in
      by_bool (done r) (λ v. Settles marks items v (i == root))
      (λ ready. let h = ready_parts ready in
      by_bool (i == root) (Settles marks items true)
      (λ same. (
        root_keeps marks items (eqb-true i root same) h b others,
        (let none : has_parent r ≡ 0 = ap some_hit ((b.fits i).top (eqb-true i root same)) in omega (arith, with_parent_set rs i (left r) lt, none)),
      ))
      (λ differ. leaf_settles marks items (eqb-false i root differ) h b others r.parent (cond-true r.engaged r.parent None h.on)))
      (λ unready.
      let here : Waits r = λ eng rest. elim (cases_lt 0 r.deficit) [
        | inl some ↦ some
        | inr none ↦ absurd (both_ways _ unready (and_from _ _ eng (and_from _ _ (not_from_false _ rest) (eq-eqb _ 0 (omega arith)))))
      ] in
      let same : set rs i r ≡ rs = set-get_or rs i blank in (
        subst (λ xs. Balanced nodes root announced xs marks items) (sym same) (record { loose = b; waits = λ k. elim (cases_eq k i) [ inl e ↦ subst (λ j. Waits (node_at rs j)) (sym e) here | inr ne ↦ others k ne ] }),
        (let count : owed (slice_set rs i r) marks ≡ owed rs marks = ap (λ xs. owed xs marks) same in omega (arith, count)),
      ))

-- what is left once node i's record has become r and settled
abbrev pub Leaves : (nodes root : ℕ) (announced : Bool) (rs : List Node) (i : ℕ) (marks items : List ℕ) → Node → ℕ → Type 0
Leaves nodes root announced rs i marks items r owe =
    Lands nodes root (announced_by (i == root) announced (leaving r)) (slice_set rs i (settled r)) marks items owe (signal_of (i == root) r.parent (leaving r))

module _ (nodes root : ℕ) (announced : Bool) (rs : List Node) (i : ℕ) (lt : i < length rs) where
  -- The record of node i becomes r, and then settles.
  changed_settles : (marks items : List ℕ) (r : Node) → has_parent r ≡ has_parent (node_at rs i) → Loose nodes root announced (slice_set rs i r) marks items → ((k : ℕ) → Waits (node_at rs k)) → Leaves nodes root announced rs i marks items r (owed rs marks)
  changed_settles marks items r parent_same b waits =
      let xs = set rs i r in
      let lt' : i < length xs = rw (length-set rs i r) lt in
      let top = nat_eq i root in
      let start = settles nodes root announced xs i lt' marks items b (λ k ne. subst Waits (sym (get_or-set_other rs i k r blank ne)) (waits k)) in
      let read : node_at xs i ≡ r = get_or-set_same rs i r blank lt in
      let one : Leaves nodes root announced xs i marks items r (owed xs marks) = subst (λ x. Leaves nodes root announced xs i marks items x (owed xs marks)) read start in
      let two : Leaves nodes root announced xs i marks items r (owed rs marks) = subst (Leaves nodes root announced xs i marks items r) (omega (arith, with_parent_set rs i r lt, parent_same)) one in
      subst (λ ys. Lands nodes root (announced_by top announced (leaving r)) ys marks items (owed rs marks) (signal_of top r.parent (leaving r))) (set-set rs i r (settled r)) two

  -- Idled. Being passive only means that the node may be able to leave.
  pub idled_keeps : (marks items : List ℕ) → Balanced nodes root announced rs marks items → Leaves nodes root announced rs i marks items (resting (node_at rs i)) (owed rs marks)
  idled_keeps marks items b =
      let r = node_at rs i in
      let f = b.loose.fits i in
      changed_settles marks items (resting r) refl
      (record {
        rank = b.loose.rank;
        fits = each_set (Fits nodes root announced b.loose.rank) rs i (resting r) lt (λ k ne. b.loose.fits k) (record {
          outside = λ e. (refl, (f.outside e).1);
          above = f.above;
          parentless = f.parentless;
          top = f.top;
          absent = f.absent;
          announces = f.announces;
        });
        deficits = deficits_set rs marks items i (resting r) marks items lt b.loose.deficits (λ n ne. refl) refl;
      })
      b.waits

  -- Control. The signal is gone, and the deficit of the node that it named has fallen by one; then the node may leave.
  pub control_keeps : (marks items : List ℕ) → Balanced nodes root announced rs marks (i ∷ items) → Leaves nodes root announced rs i marks items (lowered (node_at rs i)) (owed rs marks)
  control_keeps marks items b =
      let r = node_at rs i in
      let f = b.loose.fits i in
      changed_settles marks items (lowered r) refl
      (record {
        rank = b.loose.rank;
        fits = each_set (Fits nodes root announced b.loose.rank) rs i (lowered r) lt (λ k ne. b.loose.fits k) (record {
          outside = λ e. ((f.outside e).0, omega (arith, (f.outside e).1));
          above = f.above;
          parentless = f.parentless;
          top = f.top;
          absent = f.absent;
          announces = f.announces;
        });
        deficits = deficits_set rs marks (i ∷ items) i (lowered r) marks items lt b.loose.deficits
            (λ n ne. omega (arith, hits_cons n i items, hit_other n i ne))
            (omega (arith, hits_cons i i items, hit_same i, b.loose.deficits i));
      })
      b.waits

module _ (nodes root : ℕ) (rs : List Node) (lt : root < length rs) (inside : root < nodes) (blanks : (k : ℕ) → node_at rs k ≡ blank) where
  blank_fits : (k : ℕ) → k ≢ root → Fits nodes root false (λ _. 0) k blank
  blank_fits k ne = record {
    outside = λ _. (refl, refl);
    above = λ q e. cc;
    parentless = λ e _. absurd (true≢false (sym e));
    top = λ _. refl;
    absent = λ _. refl;
    announces = λ same. absurd (ne same);
  }

  no_parents : (k : ℕ) → tree_parent (node_at rs k) ≡ None
  no_parents k = ap tree_parent (blanks k)

  -- Opened. The tree is the root alone, without a parent or a deficit.
  pub opened_balance : Balanced nodes root false (slice_set rs root first) [] []
  opened_balance = record {
    loose = record {
      rank = λ _. 0;
      fits = each_set (Fits nodes root false (λ _. 0)) rs root first lt (λ k ne. subst (Fits nodes root false (λ _. 0) k) (sym (blanks k)) (blank_fits k ne)) (record {
        outside = λ e. absurd (true≢false e);
        above = λ q e. cc;
        parentless = λ _ _. refl;
        top = λ _. refl;
        absent = λ far. absurd (omega arith);
        announces = λ _. refl;
      });
      deficits = deficits_set rs [] [] root first [] [] lt
          (λ n. let d : (node_at rs n).deficit ≡ 0 = ap (λ x. x.deficit) (blanks n) in omega (arith, d, no_children n rs no_parents))
          (λ n ne. let d : child n (node_at rs root) ≡ 0 = ap (child n) (blanks root) in omega (arith, d))
          (let d : child root (node_at rs root) ≡ 0 = ap (child root) (blanks root) in let e : (node_at rs root).deficit ≡ 0 = ap (λ x. x.deficit) (blanks root) in omega (arith, d, e));
    };
    waits = each_set (λ k x. Waits x) rs root first lt (λ k ne. subst Waits (sym (blanks k)) (λ e _. absurd (true≢false (sym e)))) (λ _ e. absurd (true≢false e));
  }

  pub opened_owes : owed (slice_set rs root first) [] ≡ 0
  opened_owes = omega (arith, with_parent_set rs root first lt, none_with_parent rs no_parents)
