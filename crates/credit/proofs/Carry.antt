-- One more credit at a set of places.
use Rattle.std.proofs.Common.{◌≡◌, ℕ, zero, suc, ◌+◌, ◌<◌, ◌≤◌, ◌≢◌, inl, inr, ap, set, Bool, true, false, List, length, get_or, take, Some, None, IsSome, IsTrue, All, sym, refl, ◌∙◌, arith}
use Rattle.std.specs.Prelude.{Option, MatchOption}
use Rattle.std.proofs.lemmas.List.{get_or-take, length-take-le, ext_get_or, length-set, get_or-set_other}
use Rattle.std.proofs.lemmas.Grind.{get_or-set_at}
use Rattle.std.proofs.lemmas.Bool.{true≢false, cases_Bool, cases_lt, cases_eq, cond-true, cond-false}
use Rattle.credit.specs.Places.{value, whole, credit_of, IsLastFree, Added, carried}
use Rattle.credit.specs.ValuesLemmas.{whole_taken, whole_sum, credit_some}

-- what is the same beside the place that was taken, where that is the credit's own
by_side : (ps qs : List Bool) (e : ℕ) (a : Added ps e qs) → e ≤ a.place → (k : ℕ) → k ≢ e → get_or qs k false ≡ get_or ps k false
by_side ps qs e a last k ne = elim (cases_lt k e) [
  | inl lt ↦ a.same_before k (omega (arith, lt, last))
  | inr past ↦ a.same_beyond k (elim (cases_lt e k) [ inl lt ↦ lt | inr le ↦ absurd (ne (omega (arith, le, past))) ])
]

-- a free place of the credit's own is the one that was taken, since those passed on the way were taken before
own : (ps qs : List Bool) (e : ℕ) (a : Added ps e qs) → get_or ps e false ≡ false → e ≤ a.place
own ps qs e a off = elim (cases_lt a.place e) [
  | inl lt ↦ absurd (true≢false (sym (a.were_taken e lt (omega arith)) ∙ off))
  | inr le ↦ le
]

-- With the credit's own place taken, it is passed on the way; once that is cleared, the rest is one more credit at the next
-- lower number.
one_less : (ps qs : List Bool) (e : ℕ) → suc e < length ps → Added ps (suc e) qs → get_or ps (suc e) false ≡ true → Added (set ps (suc e) false) e qs
one_less ps qs e inside a on =
    let passed : a.place ≤ e = elim (cases_lt a.place (suc e)) [
      | inl lt ↦ omega (arith, lt)
      | inr le ↦ absurd (true≢false (sym on ∙ ap (λ j. get_or ps j false) (omega (arith, le, a.up_to)) ∙ a.was_free))
    ] in
    let kept : (k : ℕ) → k ≢ suc e → get_or (set ps (suc e) false) k false ≡ get_or ps k false = λ k ne. get_or-set_other ps (suc e) k false false ne in
    record {
      place = a.place;
      up_to = passed;
      was_free = kept a.place (λ i. omega (arith, i, passed)) ∙ a.was_free;
      were_taken = λ k lo hi. kept k (λ i. omega (arith, i, hi)) ∙ a.were_taken k lo (omega (arith, hi));
      is_taken = a.is_taken;
      are_free = λ k lo hi. a.are_free k lo (omega (arith, hi));
      same_before = λ k lo. a.same_before k lo ∙ sym (kept k (λ i. omega (arith, i, lo, passed)));
      same_beyond = λ k hi. elim (cases_eq k (suc e)) [
        | inl at ↦ a.are_free k (omega (arith, hi, passed)) (omega (arith, at)) ∙ sym (get_or-set_at ps (suc e) k false false at inside)
        | inr ne ↦ a.same_beyond k (elim (cases_lt (suc e) k) [ inl lt ↦ lt | inr le ↦ absurd (ne (omega (arith, le, hi))) ]) ∙ sym (kept k ne)
      ];
      size = a.size ∙ sym (length-set ps (suc e) false);
    }

-- The free place that was taken is the credit's own: nothing else has changed.
at_once : (ps qs : List Bool) (e : ℕ) → e < length ps → (a : Added ps e qs) → e ≤ a.place → qs ≡ set ps e true
at_once ps qs e inside a last = ext_get_or false qs (set ps e true) (a.size ∙ sym (length-set ps e true)) (λ k lt.
    elim (cases_eq k e) [
      | inl at ↦ ap (λ j. get_or qs j false) (omega (arith, at, last, a.up_to)) ∙ a.is_taken ∙ sym (get_or-set_at ps e k true false at inside)
      | inr ne ↦ by_side ps qs e a last k ne ∙ sym (get_or-set_other ps e k true false ne)
    ])

-- Places that have one more credit at once have it by carrying. Consider place e. If it was free, it is the place
-- that was taken, and nothing is carried. Otherwise it was taken; once it is cleared, what is left to show is the same of
-- one place less.
carrying : (ps qs : List Bool) (e : ℕ) → e < length ps → Added ps e qs → qs ≡ carried ps e
carrying ps qs zero inside a = at_once ps qs zero inside a (omega arith)
carrying ps qs (suc e) inside a = elim (cases_Bool (get_or ps (suc e) false)) [
  | inl on ↦ carrying (set ps (suc e) false) qs e (omega (arith, length-set ps (suc e) false, inside)) (one_less ps qs e inside a on)
      ∙ sym (cond-true (get_or ps (suc e) false) _ _ on)
  | inr off ↦ at_once ps qs (suc e) inside a (own ps qs (suc e) a off) ∙ sym (cond-false (get_or ps (suc e) false) _ _ off)
]

-- The first e + 1 of 1,001 places, where i is the exponent e as an index.
module _ (ps : List Bool) (e i : ℕ) (long : length ps ≡ 1001) (few : e ≤ 1000) (same : i ≡ e) where
  up_to : length (take (i + 1) ps) ≡ i + 1
  up_to = length-take-le (i + 1) ps (omega arith)

  -- what a search for the last free one of them answers
  abbrev Found : Option ℕ → Type 0
  Found o = MatchOption o (All IsTrue (take (i + 1) ps)) (IsLastFree (take (i + 1) ps))

  -- That the last free one of them is taken, and those behind it are freed, is that the credit has been added.
  module _ (o : Option ℕ) (p : ℕ) (found : o ≡ Some p) (last : Found o) where
    free : IsLastFree (take (i + 1) ps) p
    free = rw found at last

    low : p ≤ e
    low = omega (arith, free.inside, up_to)

    pub ends : (p ≤ i) × (i < length ps)
    ends = (omega (arith, low), omega (arith, long))

    module _ (qs : List Bool) (size : length qs ≡ length ps) (on : get_or qs p false ≡ true) (off : (k : ℕ) → p < k → k ≤ i → get_or qs k false ≡ false) (before : (k : ℕ) → k < p → get_or qs k false ≡ get_or ps k false) (beyond : (k : ℕ) → i < k → get_or qs k false ≡ get_or ps k false) where
      pub added : Added ps e qs
      added = record {
        place = p;
        up_to = low;
        was_free = sym (get_or-take (i + 1) ps p false (omega (arith, low))) ∙ free.is_free;
        were_taken = λ k lo hi. sym (get_or-take (i + 1) ps k false (omega arith)) ∙ free.rest_taken k lo (omega (arith, up_to));
        is_taken = on;
        are_free = λ k lo hi. off k lo (omega arith);
        same_before = before;
        same_beyond = λ k lo. beyond k (omega arith);
        size = size;
      }

      pub sum : value qs ≡ value ps + credit_of e
      sum = whole_sum ps long qs e few added

      pub carries : qs ≡ carried ps e
      carries = carrying ps qs e (omega (arith, long)) added

  -- Where the sum with one more credit is at most one, one of them is free: with place 0 taken the value is one already,
  -- with no room for a credit.
  pub some_free : (o : Option ℕ) → value ps + credit_of e ≤ whole → Found o → IsSome o
  some_free None room all =
      let first : get_or ps 0 false ≡ true = sym (get_or-take (i + 1) ps 0 false (omega arith)) ∙ all 0 false (omega (arith, up_to)) in
      absurd (omega (arith, whole_taken ps long first, credit_some e))
  some_free (Some p) room last = refl
