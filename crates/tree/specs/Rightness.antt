-- The tree keeps the laws of a detector.
use Rattle.std.specs.Prelude.{◌≡◌, ℕ, ◌+◌, ◌<◌, Bool, true, false, if◌then◌else◌, ◌&&◌, List, [], ◌∷◌, length, replicate, Some, None, Option, ◌==◌, nat_lt, slice_set, refl}
use Rattle.std.proofs.Common.{sym, ap, subst, ◌∙◌, inl, inr, arith}
use Rattle.std.proofs.lemmas.List.{get_or-set_same, get_or-set_other}
use Rattle.std.proofs.lemmas.Bool.{both_ways, cond_both, lt-ltb, le-ltb, and_from, and_parts, cases_lt, cases_Bool}
use Rattle.fault.specs.Checks.{Passes}
use Rattle.detector.specs.Calls.{open_checks, sent_checks, received_checks, idled_checks, control_checks}
use Rattle.detector.specs.Laws.{AllPassive, Fresh, Same, Turned, StillBalanced, Sending, Receiving, Idling, Controlling, Over, Lawful}
use Rattle.detector.specs.Tables.{replicated}
use Rattle.tree.specs.declared.node.Node.{Node}
use Rattle.tree.specs.declared.node.Event.TheVariants.{Received, Idled, Control}
use Rattle.tree.specs.declared.node.Outcome.TheVariants.{Signal}
use Rattle.tree.specs.declared.engagement.Tree.{Tree}
use Rattle.tree.specs.Rules.{blank, first, node_at, raised, lowered, resting, woken, joining, left, done}
use Rattle.tree.specs.Steps.{at, HasDeficit, Becomes, Opened, Sent, signal_of, announced_by, Happens}
use Rattle.tree.specs.Balance.{hits, has_parent, some_hit, Balanced, owed, tree_meaning}
use Rattle.tree.specs.Tables.{each_set, with_parent_set, hits_cons, hit_same}
use Rattle.tree.specs.Family.{outside_parent}
use Rattle.tree.specs.Endings.{deficit_engaged, too_soon_never, missed_never, any_order}
use Rattle.tree.specs.Keeps.{by_bool, Lands, sent_keeps, woken_keeps, joining_keeps, idled_keeps, control_keeps, opened_balance, opened_owes}

-- What holds of a changed table holds of the tree that has it.
becomes : (P : ℕ → ℕ → Bool → List Node → Type 0) (t u : Tree) (i : ℕ) (r : Node) (a : Bool) → Becomes t u i r a → P t.nodes t.root a (slice_set t.table.records i r) → P u.nodes u.root u.announced u.table.records
becomes P t u i r a b h = rw (b.nodes, b.root, b.announces, b.records) h

within : (t : Tree) (i : ℕ) → i < t.nodes → i < length t.table.records
within t i lt = omega (arith, t.few, t.whole)

-- The activity of a node in a table of that many nodes.
abbrev active_in : ℕ → List Node → ℕ → Bool
active_in nodes rs k = nat_lt k nodes && (node_at rs k).active

turned_by : (t u : Tree) (i : ℕ) (r : Node) (a to : Bool) → i < t.nodes → Becomes t u i r a → r.active ≡ to → Turned tree_meaning t u i to
turned_by t u i r a to inside b e =
    let rs = t.table.records in
    record {
      size = b.nodes;
      here = becomes (λ n _ _ xs. active_in n xs i ≡ to) t u i r a b (ap (λ v. v && (node_at (slice_set rs i r) i).active) (lt-ltb i t.nodes inside) ∙ ap (λ x. x.active) (get_or-set_same rs i r blank (within t i inside)) ∙ e);
      others = λ k ne. becomes (λ n _ _ xs. active_in n xs k ≡ active_in t.nodes rs k) t u i r a b (ap (λ x. nat_lt k t.nodes && x.active) (get_or-set_other rs i k r blank ne));
    }

same_by : (t u : Tree) (i : ℕ) (r : Node) (a : Bool) → i < t.nodes → Becomes t u i r a → r.active ≡ (at t i).active → Same tree_meaning t u
same_by t u i r a inside b e =
    let rs = t.table.records in
    record {
      size = b.nodes;
      activity = becomes (λ n _ _ xs. (k : ℕ) → active_in n xs k ≡ active_in t.nodes rs k) t u i r a b
          (each_set (λ k x. (nat_lt k t.nodes && x.active) ≡ active_in t.nodes rs k) rs i r (within t i inside) (λ k ne. refl) (ap (λ v. nat_lt i t.nodes && v) e));
    }

balanced_by : (t u : Tree) (i : ℕ) (r : Node) (a : Bool) (marks items : List ℕ) (owe : ℕ) (item answer : Option ℕ) → Becomes t u i r a → answer ≡ item → Lands t.nodes t.root a (slice_set t.table.records i r) marks items owe item → StillBalanced tree_meaning u marks items owe answer
balanced_by t u i r a marks items owe item answer b e h =
    let moved = becomes (λ n r a xs. Lands n r a xs marks items owe item) t u i r a b h in
    subst (StillBalanced tree_meaning u marks items owe) (sym e) (record { balanced = moved.0; owing = moved.1 })

-- Opened: the table has the root's record and blank ones, so only the root is active and in the tree, and nothing is owed.
opening : (nodes root : ℕ) (t : Tree) → Passes (open_checks nodes root) → Opened nodes root t → Fresh tree_meaning nodes root t
opening nodes root t pass h =
    let rs = replicate 64 blank in
    let blanks : (k : ℕ) → node_at rs k ≡ blank = λ k. replicated 64 k blank in
    let inside : root < nodes = pass.0.1 in
    let lt : root < length rs = omega (arith, pass.0.0) in
    let move : (P : ℕ → ℕ → Bool → List Node → Type 0) → P nodes root false (slice_set rs root first) → P t.nodes t.root t.announced t.table.records = λ P x. rw (h.size, h.top, h.silent, h.records) x in
    let quiet : (b : Bool) → (b && false) ≡ false = λ b. elim b as (λ v. (v && false) ≡ false) [ true ↦ refl | false ↦ refl ] in
    record {
      size = h.size;
      root_active = move (λ n _ _ xs. active_in n xs root ≡ true) (and_from _ _ (lt-ltb root nodes inside) (ap (λ x. x.active) (get_or-set_same rs root first blank lt)));
      rest_passive = λ k ne. move (λ n _ _ xs. active_in n xs k ≡ false) (ap (λ x. nat_lt k nodes && x.active) (get_or-set_other rs root k first blank ne ∙ blanks k) ∙ quiet (nat_lt k nodes));
      none_spent = move (λ n _ _ xs. (k : ℕ) → (nat_lt k n && (node_at xs k).deficit == 65535) ≡ false) (each_set (λ k x. (nat_lt k nodes && x.deficit == 65535) ≡ false) rs root first lt (λ k ne. ap (λ x. nat_lt k nodes && x.deficit == 65535) (blanks k) ∙ quiet (nat_lt k nodes)) (quiet (nat_lt root nodes)));
      balanced = move (λ n r a xs. Balanced n r a xs [] []) (opened_balance nodes root rs lt inside blanks);
      owed = move (λ _ _ _ xs. owed xs [] ≡ 0) (opened_owes nodes root rs lt inside blanks);
    }

-- Sent: the sender's deficit rises by one as its mark joins the marks; activity and the tree stay as they are.
sending : (t u : Tree) (i mark : ℕ) → Passes (sent_checks tree_meaning t i) → Sent t i mark u → Sending tree_meaning t u mark
sending t u i mark pass h =
    let rs = t.table.records in
    let inside : i < t.nodes = pass.0 in
    let lt = within t i inside in
    let act : (at t i).active ≡ true = (and_parts (nat_lt i t.nodes) _ pass.1.0).1 in
    let b = h.state in
    record {
      same = same_by t u i _ _ inside b refl;
      balanced = λ marks items x. subst (λ m. Balanced u.nodes u.root u.announced u.table.records (m ∷ marks) items) (sym h.signed)
          (becomes (λ n r a xs. Balanced n r a xs (i ∷ marks) items) t u i _ _ b (sent_keeps t.nodes t.root t.announced rs i lt marks items act x));
      owing = λ marks items x. becomes (λ _ _ _ xs. owed xs (mark ∷ marks) ≡ owed rs marks + 1) t u i _ _ b (omega (arith, with_parent_set rs i (raised (at t i)) lt));
    }

-- By cases on whether the node is in the tree.
receiving : (t u : Tree) (i m : ℕ) (item : Option ℕ) → Passes (received_checks tree_meaning t i m) → Happens t i (Received m) item u → Receiving tree_meaning t u i m item
receiving t u i m item pass h = by_bool r.engaged P in_tree outside h.signal h.state
  where
    r : Node
    r = at t i

    rs : List Node
    rs = t.table.records

    inside : i < t.nodes
    inside = pass.0

    lt : i < length rs
    lt = within t i inside

    P : Bool → Type 0
    P v =
        let o = if v then Some (Signal m) else None in
        item ≡ signal_of (i == t.root) r.parent o → Becomes t u i (if v then woken r else joining r m) (announced_by (i == t.root) t.announced o) → Receiving tree_meaning t u i m item

    in_tree : r.engaged ≡ true → P true
    in_tree eng e b = record {
      turned = turned_by t u i _ _ true inside b refl;
      kept = λ marks items x. balanced_by t u i _ _ marks items _ (Some m) item b e
          (woken_keeps t.nodes t.root t.announced rs i lt m marks items eng x, omega (arith, with_parent_set rs i (woken r) lt));
    }

    outside : r.engaged ≡ false → P false
    outside free e b = record {
      turned = turned_by t u i _ _ true inside b refl;
      kept = λ marks items x. balanced_by t u i _ _ marks items _ None item b e (
        joining_keeps t.nodes t.root t.announced rs i lt m marks items inside free x,
        (let lone : has_parent r ≡ 0 = ap some_hit (outside_parent r free) in omega (arith, with_parent_set rs i (joining r m) lt, lone)),
      );
    }

-- Idled: the node is passive. If it could leave now it has left, and the signal to its parent is the one less that is owed.
idling : (t u : Tree) (i : ℕ) (item : Option ℕ) → Passes (idled_checks tree_meaning t i) → Happens t i Idled item u → Idling tree_meaning t u i item
idling t u i item pass h =
    let r = resting (at t i) in
    let inside : i < t.nodes = pass.0 in
    record {
      turned = turned_by t u i _ _ false inside h.state (cond_both (done r) (left r) r (λ x. x.active ≡ false) (λ _. refl) (λ _. refl));
      kept = λ marks items x. balanced_by t u i _ _ marks items _ _ item h.state h.signal (idled_keeps t.nodes t.root t.announced t.table.records i (within t i inside) marks items x);
    }

-- Control: the signal leaves the waiting items and the deficit that counted it falls by one; then the node leaves if it can.
controlling : (t u : Tree) (i : ℕ) (item : Option ℕ) → Passes (control_checks tree_meaning t i) → Happens t i Control item u → Controlling tree_meaning t u i item
controlling t u i item pass h =
    let r = lowered (at t i) in
    let inside : i < t.nodes = pass.0.0 in
    record {
      same = same_by t u i _ _ inside h.state (cond_both (done r) (left r) r (λ x. x.active ≡ (at t i).active) (λ _. refl) (λ _. refl));
      kept = λ marks items x. balanced_by t u i _ _ marks items _ _ item h.state h.signal (control_keeps t.nodes t.root t.announced t.table.records i (within t i inside) marks items x);
    }

-- A number that waits is counted in that node's deficit; a node with a deficit is in the tree, and so below the number of
-- nodes.
waiting_taken : (t : Tree) (m : ℕ) (marks items : List ℕ) → tree_meaning.balance t marks items → 0 < hits m marks + hits m items → HasDeficit t m
waiting_taken t m marks items b some =
    let lots : 0 < (at t m).deficit = omega (arith, b.loose.deficits m) in
    let eng = deficit_engaged t.nodes t.root t.announced t.table.records marks items b.loose m lots in
    (elim (cases_lt m t.nodes) [ inl lt ↦ lt | inr far ↦ absurd (both_ways (at t m).engaged ((b.loose.fits m).absent far) eng) ], lots)

-- A node that is not there is passive by the balance; so all records are passive if all nodes are.
all_records : (t : Tree) → tree_meaning.balance t [] [] → AllPassive tree_meaning t → (k : ℕ) → (at t k).active ≡ false
all_records t b passive k =
    elim (cases_lt k t.nodes) [
      | inl lt ↦ elim (cases_Bool (at t k).active) [ inl on ↦ absurd (both_ways _ (passive k lt) (and_from _ _ (lt-ltb k t.nodes lt) on)) | inr off ↦ off ]
      | inr far ↦ ((b.loose.fits k).outside ((b.loose.fits k).absent far)).0
    ]

never_too_soon : (t : Tree) (marks items : List ℕ) → tree_meaning.balance t marks items → t.announced ≡ true → Over tree_meaning t marks items
never_too_soon t marks items b ann =
    let end = too_soon_never t.nodes t.root t.announced t.table.records marks items b.loose ann in
    record {
      passive = λ k lt. ap (λ v. v && (at t k).active) (lt-ltb k t.nodes lt) ∙ end.0 k;
      no_marks = end.1;
      no_items = end.2;
      nothing_owed = end.3;
    }

pub lawful : Lawful tree_meaning
lawful = record {
  absent = λ t k far. (ap (λ v. v && (at t k).active) (le-ltb k t.nodes far), ap (λ v. v && (at t k).deficit == 65535) (le-ltb k t.nodes far));
  opening = opening;
  sending = sending;
  receiving = receiving;
  idling = idling;
  controlling = controlling;
  mark_taken = λ t m marks items b. waiting_taken t m (m ∷ marks) items b (omega (arith, hits_cons m m marks, hit_same m));
  item_taken = λ t m marks items b. waiting_taken t m marks (m ∷ items) b (omega (arith, hits_cons m m items, hit_same m));
  any_order = λ t marks items others rest. any_order t.nodes t.root t.announced t.table.records marks items others rest;
  never_too_soon = never_too_soon;
  never_missed = λ t b passive. missed_never t.nodes t.root t.announced t.table.records b (all_records t b passive);
}
