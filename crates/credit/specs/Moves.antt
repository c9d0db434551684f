-- What a call does that changes what one node holds: to the other nodes, to the sums, and to the balance.
use Rattle.std.specs.Prelude.{◌≡◌, ℕ, ◌+◌, ◌<◌, ◌≤◌, Bool, if◌then◌else◌, ◌≢◌, List, length, is_some, Some, None, sum_by, All, Option, nat_lt, slice_index_or, slice_set}
use Rattle.std.proofs.Common.{sym, ap, ◌∙◌, inl, inr, arith}
use Rattle.std.proofs.lemmas.List.{get_or-set_same, get_or-set_other}
use Rattle.std.proofs.lemmas.List.Sums.{sum_by-set, sum_by-cons}
use Rattle.std.proofs.lemmas.Bool.{cases_eq, cond-true, cond-false, lt-ltb, le-ltb}
use Rattle.detector.specs.Laws.{with_answer, Same, Turned}
use Rattle.credit.specs.declared.holders.Holder.{Holder}
use Rattle.credit.specs.declared.credit.Credit.{Credit}
use Rattle.credit.specs.Holdings.{holding}
use Rattle.credit.specs.Places.{value, credit_of}
use Rattle.credit.specs.Rules.{held_by, Holds}
use Rattle.credit.specs.Meaning.{credit_in, holder_count, credits, PossibleMark, Balanced, credit_meaning}

-- the record of a node that is there says what it holds
pub held_there : (d : Credit) (node : ℕ) → node < d.nodes → held_by d node ≡ (slice_index_or d.holders.records node (holding None)).held
held_there d node lt = cond-true (nat_lt node d.nodes) _ None (lt-ltb node d.nodes lt)

-- a node that is not there holds nothing
pub held_past : (d : Credit) (node : ℕ) → d.nodes ≤ node → held_by d node ≡ None
held_past d node past = cond-false (nat_lt node d.nodes) _ None (le-ltb node d.nodes past)

-- the same number of nodes and the same record: the same exponent
held_like : (d e : Credit) (k : ℕ) → e.nodes ≡ d.nodes → slice_index_or e.holders.records k (holding None) ≡ slice_index_or d.holders.records k (holding None) → held_by e k ≡ held_by d k
held_like d e k size same = ap (λ n. if nat_lt k n then (slice_index_or e.holders.records k (holding None)).held else None) size ∙ ap (λ h. if nat_lt k d.nodes then h.held else None) same

pub held_same : (d e : Credit) → e.nodes ≡ d.nodes → e.holders.records ≡ d.holders.records → (k : ℕ) → held_by e k ≡ held_by d k
held_same d e size records k = held_like d e k size (ap (λ rs. slice_index_or rs k (holding None)) records)

-- One if something is held.
abbrev pub one_in : Option ℕ → ℕ
one_in o = if is_some o then 1 else 0

-- From d to e the node changes to o what it holds, and nothing else changes.
module _ (d e : Credit) (node : ℕ) (o : Option ℕ) (inside : node < d.nodes) (h : Holds d e node o) where
  within : node < length d.holders.records
  within = omega (arith, d.few, d.room, inside)

  pub held_here : held_by e node ≡ o
  held_here =
      held_there e node (omega (arith, h.nodes, inside))
      ∙ ap (λ rs. (slice_index_or rs node (holding None)).held) h.records
      ∙ ap (λ r. r.held) (get_or-set_same d.holders.records node (holding o) (holding None) within)

  pub held_other : (k : ℕ) → k ≢ node → held_by e k ≡ held_by d k
  held_other k ne = held_like d e k h.nodes
      (ap (λ rs. slice_index_or rs k (holding None)) h.records ∙ get_or-set_other d.holders.records node k (holding o) (holding None) ne)

  -- Any sum over what the nodes hold changes by what this node adds to it.
  sum_changes : (f : Option ℕ → ℕ) → sum_by (λ r. f r.held) e.holders.records + f (held_by d node) ≡ sum_by (λ r. f r.held) d.holders.records + f o
  sum_changes f =
      let g : Holder → ℕ = λ r. f r.held in
      let moved : sum_by g e.holders.records ≡ sum_by g (slice_set d.holders.records node (holding o)) = ap (sum_by g) h.records in
      let was : f (held_by d node) ≡ g (slice_index_or d.holders.records node (holding None)) = ap f (held_there d node inside) in
      omega (arith, moved, was, sum_by-set g d.holders.records node (holding o) (holding None) within)

  pub count_changes : holder_count e + one_in (held_by d node) ≡ holder_count d + one_in o
  count_changes = sum_changes one_in

  -- The node keeps the balance if the credit that it holds and the credit of what waits are as much together as before:
  -- all other nodes hold what they held, and what is recovered is the same.
  pub balance_kept : (marks items others rest : List ℕ) → Balanced d marks items →
      credit_in o + credits others + credits rest ≡ credit_in (held_by d node) + credits marks + credits items →
      ((x : ℕ) → o ≡ Some x → x ≤ 1000) → All PossibleMark others → All (λ i. i ≤ 1000) rest → Balanced e others rest
  balance_kept marks items others rest b flow small marked itemed = record {
    sum = omega (arith, b.sum, sum_changes credit_in, flow, ap (λ ps. value ps.taken) h.recovered);
    none_past = λ k past.
        let out : d.nodes ≤ k = omega (arith, h.nodes, past) in
        ap (λ rs. (slice_index_or rs k (holding None)).held) h.records
        ∙ ap (λ r. r.held) (get_or-set_other d.holders.records node k (holding o) (holding None) (λ at. omega (arith, at, inside, out)))
        ∙ b.none_past k out;
    held_within = λ k x is. elim (cases_eq k node) [
      | inl at ↦ small x (sym held_here ∙ ap (held_by e) (sym at) ∙ is)
      | inr ne ↦ b.held_within k x (sym (held_other k ne) ∙ is)
    ];
    marks_within = marked;
    items_within = itemed;
  }

  pub turned : (to : Bool) → is_some o ≡ to → Turned credit_meaning d e node to
  turned to is = record {
    size = h.nodes;
    here = ap is_some held_here ∙ is;
    others = λ k ne. ap is_some (held_other k ne);
  }

  pub stays : is_some o ≡ is_some (held_by d node) → Same credit_meaning d e
  stays is = record {
    size = h.nodes;
    activity = λ k. elim (cases_eq k node) [
      | inl at ↦ ap (λ j. is_some (held_by e j)) at ∙ ap is_some held_here ∙ is ∙ ap (λ j. is_some (held_by d j)) (sym at)
      | inr ne ↦ ap is_some (held_other k ne)
    ];
  }

-- the credit of the waiting items with the one answered
pub answer_credits : (item : Option ℕ) (items : List ℕ) → credits (with_answer item items) ≡ credit_in item + credits items
answer_credits None items = omega arith
answer_credits (Some i) items = sum_by-cons credit_of i items
