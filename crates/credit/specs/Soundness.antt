-- The credit detector keeps the laws of a detector.
use Rattle.std.specs.Prelude.{◌≡◌, ℕ, suc, ◌+◌, ◌<◌, ◌≤◌, true, false, ◌≢◌, List, [], ◌∷◌, length, replicate, is_some, Some, None, sum_by, All, Option, slice_index_or, slice_set, refl}
use Rattle.std.proofs.Common.{sym, ap, subst, ◌∙◌, inl, inr, arith}
use Rattle.std.specs.List.Sorted.{IsPermutation}
use Rattle.std.proofs.lemmas.List.{get_or_past, get_or-set_same, get_or-set_other, length-replicate}
use Rattle.std.proofs.lemmas.List.Sums.{get_or-le-sum_by, sum_by-cons, sum_by-set}
use Rattle.std.proofs.lemmas.List.Elements.{All-nil, All-cons, All-head, All-tail}
use Rattle.std.proofs.lemmas.List.Sorted.{All-permutation, sum_by-IsPermutation, length_permutation}
use Rattle.std.proofs.lemmas.Bool.{cases_Bool, cases_lt, cases_eq, leb-false}
use Rattle.fault.specs.Checks.{Passes}
use Rattle.detector.specs.Calls.{sent_checks, received_checks, idled_checks}
use Rattle.detector.specs.Laws.{with_answer, answered, AllPassive, Fresh, Sending, Receiving, Idling, Controlling, StillBalanced, Over, Lawful}
use Rattle.detector.specs.Tables.{replicated, sum_of_nothing}
use Rattle.credit.specs.declared.holders.Holder.{Holder}
use Rattle.credit.specs.declared.credit.Credit.{Credit}
use Rattle.credit.specs.Holdings.{holding}
use Rattle.credit.specs.Places.{value, whole, credit_of}
use Rattle.credit.specs.Rules.{held_by, Opened, Sent, kept, returned, Received, Idled, Recovered}
use Rattle.credit.specs.Meaning.{credit_in, all_held, holder_count, credits, is_last, PossibleMark, Balanced, credit_meaning}
use Rattle.credit.specs.ValuesLemmas.{whole_taken, whole_free, whole_sum, value_none, credit_whole, credit_halves, credit_some}
use Rattle.credit.specs.Moves.{held_there, held_past, held_same, one_in, count_changes, balance_kept, turned, stays, answer_credits}

-- not some exponent: none
unheld : (o : Option ℕ) → is_some o ≡ false → o ≡ None
unheld None e = refl
unheld (Some x) e = cc

-- whatever is held has some credit
no_credit : (o : Option ℕ) → credit_in o ≡ 0 → o ≡ None
no_credit None e = refl
no_credit (Some x) e = absurd (omega (arith, credit_some x))

no_credits : (es : List ℕ) → credits es ≡ 0 → es ≡ []
no_credits [] e = refl
no_credits (x ∷ es) e = absurd (omega (arith, sum_by-cons credit_of x es, credit_some x, e))

-- Sums over records that hold nothing are 0.
none_held : (f : Option ℕ → ℕ) → f None ≡ 0 → (rs : List Holder) → ((k : ℕ) → (slice_index_or rs k (holding None)).held ≡ None) → sum_by (λ r. f r.held) rs ≡ 0
none_held f zeros rs none = sum_of_nothing (λ r. f r.held) rs (holding None) (λ k. ap f (none k) ∙ zeros)

-- Sent: half of the node's credit stays with it, and half goes with the mark. So the credit of the node and of what waits
-- together is as before, and the node is as active as it was.
sending : (d e : Credit) (node mark : ℕ) → Passes (sent_checks credit_meaning d node) → Sent d node mark e → Sending credit_meaning d e mark
sending d e node mark passes s =
    let inside = passes.0 in
    let x = s.exponent in
    let raised = s.raised in
    let few : x < 1000 = leb-false 1000 x (sym (ap is_last s.held) ∙ passes.1.1.0) in
    let was : credit_in (held_by d node) ≡ credit_of x = ap credit_in s.held in
    let half : credit_of mark ≡ credit_of (x + 1) = ap credit_of raised in
    record {
      same = stays d e node (Some mark) inside s.holds (sym (ap is_some s.held));
      balanced = λ marks items b. balance_kept d e node (Some mark) inside s.holds marks items (mark ∷ marks) items b
          (omega (arith, was, half, credit_halves x few, sum_by-cons credit_of mark marks))
          (λ y is. let same : mark ≡ y = cc in omega arith)
          (All-cons PossibleMark mark marks (omega arith, omega arith) b.marks_within) b.items_within;
      owing = λ marks items b. omega (arith, count_changes d e node (Some mark) inside s.holds, ap one_in s.held);
    }

-- What a node holds after a message, and what it answers, have the credit of what it held and of the mark together; and
-- what it answers is one more item exactly if it was active.
received_credit : (o : Option ℕ) (mark : ℕ) → credit_in (kept o mark) + credit_in (returned o mark) ≡ credit_in o + credit_of mark
received_credit None mark = omega arith
received_credit (Some x) mark = omega arith

received_count : (o : Option ℕ) (mark : ℕ) → one_in (kept o mark) + answered (returned o mark) ≡ one_in o + 1
received_count None mark = refl
received_count (Some x) mark = refl

kept_active : (o : Option ℕ) (mark : ℕ) → is_some (kept o mark) ≡ true
kept_active None mark = refl
kept_active (Some x) mark = refl

kept_within : (o : Option ℕ) (mark : ℕ) → ((x : ℕ) → o ≡ Some x → x ≤ 1000) → mark ≤ 1000 → (x : ℕ) → kept o mark ≡ Some x → x ≤ 1000
kept_within None mark held few x is = let same : mark ≡ x = cc in omega arith
kept_within (Some y) mark held few x is = held x is

returned_within : (o : Option ℕ) (mark : ℕ) (items : List ℕ) → ((x : ℕ) → o ≡ Some x → x ≤ 1000) → mark ≤ 1000 → All (λ i. i ≤ 1000) items → All (λ i. i ≤ 1000) (with_answer (returned o mark) items)
returned_within None mark items held few all = all
returned_within (Some y) mark items held few all = All-cons (λ i. i ≤ 1000) mark items few all

-- Received: the credit of the mark goes to the node or into the item, so none is lost. The items owed for the mark and for
-- the node are as many as before, less the one answered.
receiving : (d e : Credit) (node mark : ℕ) (item : Option ℕ) → Passes (received_checks credit_meaning d node mark) → Received d node mark item e → Receiving credit_meaning d e node mark item
receiving d e node mark item passes s =
    let inside = passes.0 in
    let o = held_by d node in
    let moved : (marks items : List ℕ) → Balanced d (mark ∷ marks) items → StillBalanced credit_meaning e marks items (suc (length marks) + holder_count d) (returned o mark) =
    λ marks items b. record {
      balanced = balance_kept d e node (kept o mark) inside s.holds (mark ∷ marks) items marks (with_answer (returned o mark) items) b
          (omega (arith, received_credit o mark, answer_credits (returned o mark) items, sum_by-cons credit_of mark marks))
          (kept_within o mark (b.held_within node) passes.1.0.1)
          (All-tail PossibleMark mark marks b.marks_within)
          (returned_within o mark items (b.held_within node) passes.1.0.1 b.items_within);
      owing = omega (arith, received_count o mark, count_changes d e node (kept o mark) inside s.holds);
    } in
    record {
      turned = turned d e node (kept o mark) inside s.holds true (kept_active o mark);
      kept = λ marks items b. subst (StillBalanced credit_meaning e marks items (suc (length marks) + holder_count d)) (sym s.answers) (moved marks items b);
    }

-- Idled: the node's credit goes into the item.
idling : (d e : Credit) (node : ℕ) (item : Option ℕ) → Passes (idled_checks credit_meaning d node) → Idled d node item e → Idling credit_meaning d e node item
idling d e node item passes s =
    let inside = passes.0 in
    let x = s.exponent in
    let was : credit_in (held_by d node) ≡ credit_of x = ap credit_in s.held in
    let moved : (marks items : List ℕ) → Balanced d marks items → StillBalanced credit_meaning e marks items (length marks + holder_count d) (Some x) =
    λ marks items b. record {
      balanced = balance_kept d e node None inside s.holds marks items marks (x ∷ items) b
          (omega (arith, was, sum_by-cons credit_of x items))
          (λ y is. cc)
          b.marks_within
          (All-cons (λ i. i ≤ 1000) x items (b.held_within node x s.held) b.items_within);
      owing = omega (arith, count_changes d e node None inside s.holds, ap one_in s.held);
    } in
    record {
      turned = turned d e node None inside s.holds false refl;
      kept = λ marks items b. subst (StillBalanced credit_meaning e marks items (length marks + holder_count d)) (sym s.answers) (moved marks items b);
    }

-- Control: the credit of the item taken is recovered.
controlling : (d e : Credit) (taken : ℕ) (item : Option ℕ) → taken ≤ 1000 → Recovered d taken item e → Controlling credit_meaning d e taken item
controlling d e taken item few s =
    let held = held_same d e s.nodes s.records in
    let moved : (marks items : List ℕ) → Balanced d marks (taken ∷ items) → StillBalanced credit_meaning e marks items (length marks + holder_count d) None =
    λ marks items b. record {
      balanced = record {
        sum = omega (arith, b.sum, ap (sum_by (λ r. credit_in r.held)) s.records, sum_by-cons credit_of taken items, whole_sum d.recovered.taken d.recovered.width e.recovered.taken taken few s.added);
        none_past = λ k past. ap (λ rs. (slice_index_or rs k (holding None)).held) s.records ∙ b.none_past k (omega (arith, s.nodes, past));
        held_within = λ k x is. b.held_within k x (sym (held k) ∙ is);
        marks_within = b.marks_within;
        items_within = All-tail (λ i. i ≤ 1000) taken items b.items_within;
      };
      owing = omega (arith, ap (sum_by (λ r. one_in r.held)) s.records);
    } in
    record {
      same = record { size = s.nodes; activity = λ k. ap is_some (held k) };
      kept = λ marks items b. subst (StillBalanced credit_meaning e marks items (length marks + holder_count d)) (sym s.answers) (moved marks items b);
    }

-- Opened: the root holds the whole credit, and nothing else holds or has recovered any.
module _ (nodes root : ℕ) (d : Credit) (inside : root < nodes) (s : Opened nodes root d) where
  -- nobody holds anything before the root does
  blank_none : (k : ℕ) → (slice_index_or (replicate 64 (holding None)) k (holding None)).held ≡ None
  blank_none k = ap (λ r. r.held) (replicated 64 k (holding None))

  root_within : root < length (replicate 64 (holding None))
  root_within = omega (arith, d.few, s.size, inside, length-replicate 64 (holding None))

  root_holds : held_by d root ≡ Some 0
  root_holds =
      held_there d root (omega (arith, s.size, inside))
      ∙ ap (λ rs. (slice_index_or rs root (holding None)).held) s.records
      ∙ ap (λ r. r.held) (get_or-set_same (replicate 64 (holding None)) root (holding (Some 0)) (holding None) root_within)

  rest_record : (k : ℕ) → k ≢ root → (slice_index_or d.holders.records k (holding None)).held ≡ None
  rest_record k ne =
      ap (λ rs. (slice_index_or rs k (holding None)).held) s.records
      ∙ ap (λ r. r.held) (get_or-set_other (replicate 64 (holding None)) root k (holding (Some 0)) (holding None) ne)
      ∙ blank_none k

  rest_holds : (k : ℕ) → k ≢ root → held_by d k ≡ None
  rest_holds k ne = elim (cases_lt k d.nodes) [
    | inl lt ↦ held_there d k lt ∙ rest_record k ne
    | inr past ↦ held_past d k past
  ]

  -- a sum over what the nodes hold has the root's part alone
  opening_sum : (f : Option ℕ → ℕ) → f None ≡ 0 → sum_by (λ r. f r.held) d.holders.records ≡ f (Some 0)
  opening_sum f zeros =
      let g : Holder → ℕ = λ r. f r.held in
      let rs = replicate 64 (holding None) in
      let moved : sum_by g d.holders.records ≡ sum_by g (slice_set rs root (holding (Some 0))) = ap (sum_by g) s.records in
      let was : g (slice_index_or rs root (holding None)) ≡ 0 = ap f (blank_none root) ∙ zeros in
      joins (f (Some 0)) _ _ _ _ moved was (sum_by-set g rs root (holding (Some 0)) (holding None) root_within) (none_held f zeros rs blank_none)
    where
      -- over variables, since `omega` takes no number as long as the credit of exponent 0
      joins : (c x y z w : ℕ) → x ≡ y → z ≡ 0 → y + z ≡ w + c → w ≡ 0 → x ≡ c
      joins c x y z w p q r t = omega arith

  opening : Fresh credit_meaning nodes root d
  opening = record {
    size = s.size;
    root_active = ap is_some root_holds;
    rest_passive = λ k ne. ap is_some (rest_holds k ne);
    none_spent = λ k. elim (cases_eq k root) [
      | inl at ↦ ap (λ j. is_last (held_by d j)) at ∙ ap is_last root_holds
      | inr ne ↦ ap is_last (rest_holds k ne)
    ];
    balanced = record {
      sum = sums _ _ (opening_sum credit_in refl ∙ credit_whole) (value_none d.recovered.taken (λ k lt. s.recovered k));
      none_past = λ k past. rest_record k (λ at. omega (arith, at, past, s.size, inside));
      held_within = λ k x is. elim (cases_eq k root) [
        | inl at ↦ (let zero_is : ◌≡◌ {A = Option ℕ} (Some 0) (Some x) = sym root_holds ∙ ap (held_by d) (sym at) ∙ is in
            let same : 0 ≡ x = cc zero_is in omega (arith, same))
        | inr ne ↦ (let none_is : ◌≡◌ {A = Option ℕ} None (Some x) = sym (rest_holds k ne) ∙ is in cc none_is)
      ];
      marks_within = All-nil PossibleMark;
      items_within = All-nil (λ i. i ≤ 1000);
    };
    owed = omega (arith, opening_sum one_in refl);
  }
    where
      sums : (x v : ℕ) → x ≡ whole → v ≡ 0 → x + 0 + 0 + v ≡ whole
      sums x v p q = omega arith

-- An item that waits fits: its credit is a part of the one credit, beside what is recovered.
item_taken : (d : Credit) (item : ℕ) (marks items : List ℕ) → Balanced d marks (item ∷ items) → (item ≤ 1000) × (value d.recovered.taken + credit_of item ≤ whole)
item_taken d item marks items b = (All-head (λ i. i ≤ 1000) item items b.items_within, omega (arith, b.sum, sum_by-cons credit_of item items))

-- Sums, and what holds of each, do not depend on the order.
any_order : (d : Credit) (marks items others rest : List ℕ) → IsPermutation marks others → IsPermutation items rest → Balanced d marks items → Balanced d others rest × (length others + holder_count d ≡ length marks + holder_count d)
any_order d marks items others rest ms is b = (
  record {
    sum = omega (arith, b.sum, sum_by-IsPermutation credit_of marks others ms, sum_by-IsPermutation credit_of items rest is);
    none_past = b.none_past;
    held_within = b.held_within;
    marks_within = All-permutation PossibleMark marks others ms b.marks_within;
    items_within = All-permutation (λ i. i ≤ 1000) items rest is b.items_within;
  },
  ap (λ n. n + holder_count d) (length_permutation marks others ms),
)

-- Announced: place 0 is taken, so one is recovered, and the balance leaves nothing for the nodes and for what waits. But
-- whatever is held or waits has some credit. So nothing is held, and nothing waits.
never_too_soon : (d : Credit) (marks items : List ℕ) → Balanced d marks items → slice_index_or d.recovered.taken 0 false ≡ true → Over credit_meaning d marks items
never_too_soon d marks items b on =
    let full : whole ≤ value d.recovered.taken = whole_taken d.recovered.taken d.recovered.width on in
    let total = b.sum in
    let poor : all_held d ≡ 0 = omega arith in
    let rs = d.holders.records in
    let none : (k : ℕ) → (slice_index_or rs k (holding None)).held ≡ None = λ k. elim (cases_lt k (length rs)) [
      | inl lt ↦ no_credit (slice_index_or rs k (holding None)).held (omega (arith, get_or-le-sum_by (λ r. credit_in r.held) rs k (holding None) lt, poor))
      | inr past ↦ ap (λ r. r.held) (get_or_past rs k (holding None) past)
    ] in
    let no_marks : marks ≡ [] = no_credits marks (omega arith) in
    record {
      passive = λ k lt. ap is_some (held_there d k lt ∙ none k);
      no_marks = no_marks;
      no_items = no_credits items (omega arith);
      nothing_owed = ap (λ ms. length ms + holder_count d) no_marks ∙ omega (arith, none_held one_in refl rs none);
    }

-- Nothing is active and nothing waits: nobody holds any credit, so all of it is recovered, that is, the value of the
-- recovered places is one. With place 0 free it would be less.
never_missed : (d : Credit) → Balanced d [] [] → AllPassive credit_meaning d → slice_index_or d.recovered.taken 0 false ≡ true
never_missed d b passive =
    let rs = d.holders.records in
    let none : (k : ℕ) → (slice_index_or rs k (holding None)).held ≡ None = λ k. elim (cases_lt k d.nodes) [
      | inl lt ↦ sym (held_there d k lt) ∙ unheld (held_by d k) (passive k lt)
      | inr past ↦ b.none_past k past
    ] in
    elim (cases_Bool (slice_index_or d.recovered.taken 0 false)) [
      | inl on ↦ on
      | inr off ↦ absurd (omega (arith, whole_free d.recovered.taken d.recovered.width off, b.sum, none_held credit_in refl rs none))
    ]

pub credit_lawful : Lawful credit_meaning
credit_lawful = record {
  absent = λ d k far. (ap is_some (held_past d k far), ap is_last (held_past d k far));
  opening = λ nodes root d passes s. opening nodes root d passes.0.1 s;
  sending = sending;
  receiving = receiving;
  idling = idling;
  controlling = λ d e taken item passes s. controlling d e taken item passes.0.0 s;
  mark_taken = λ d mark marks items b. All-head PossibleMark mark marks b.marks_within;
  item_taken = item_taken;
  any_order = any_order;
  never_too_soon = never_too_soon;
  never_missed = never_missed;
}
