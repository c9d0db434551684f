-- A row filled from the fields of a line, one column after another.
use Rattle.std.proofs.Common.{◌≡◌, ℕ, zero, suc, ◌+◌, ◌<◌, ◌≤◌, List, [], ◌∷◌, length, get_or, drop, set, sym, ap, ◌∙◌, subst, inl, inr, ⊎_elim, add-zero, arith}
use Rattle.std.specs.List.{AllByRecursion}
use Rattle.std.proofs.lemmas.List.Elements.{All-from_recursion, recursion_from_All, All-drop}
use Rattle.std.proofs.lemmas.List.{length-map, length-set, get_or-map, get_or-set_same, get_or-set_other, same_lists, get_or_default, drop_more}
use Rattle.std.proofs.lemmas.Bool.{cases_lt}
use Rattle.fault.specs.Checks.{Passes, Fails}
use Rattle.text.specs.Lines.{Field, Fields, Parted, spaced}
use Rattle.text.specs.FieldsOnce.{fields_same}
use Rattle.text.proofs.Cuts.{first_of}
use Rattle.vocab.specs.declared.faults.LineFault.TheVariants.{BadField}
use Rattle.format.specs.Columns.{Order, arranged, FieldTakes}
use Rattle.format.specs.Filling.{PutAt, Filled}
use Rattle.format.specs.Verdict.{field_checks}
use Rattle.format.proofs.Orders.{each}

-- What `first_field` parts off what is left of a line, of which the first i fields are gone.
pub next_field : (line : List ℕ) (fs : List (List ℕ)) (i : ℕ) (rest front after : List ℕ) → Fields line fs → i < length fs → rest ≡ spaced (drop i fs) → Parted rest front after → (front ≡ get_or fs i []) × (after ≡ spaced (drop (i + 1) fs))
next_field line fs i rest front after w l e p =
    let s = drop_more fs i [] l in
    first_of (get_or fs i []) (drop (i + 1) fs) front after (subst (AllByRecursion Field) s (recursion_from_All Field (drop i fs) (All-drop Field i fs (All-from_recursion Field fs w.each)))) (subst (λ t. Parted t front after) (e ∙ ap spaced s) p)

module _ (takes : ℕ → List ℕ → Type 0) (line : List ℕ) (fs : List (List ℕ)) (w : Fields line fs) where
  -- a field is taken by its column where some cut of the line says so, since there is one cut
  taken : (i k : ℕ) → FieldTakes takes line i k → takes k (get_or fs i [])
  taken i k (gs, v, t) = subst (λ hs. takes k (get_or hs i [])) (fields_same line gs fs v w) t

  pub fields_pass : (o : List ℕ) (i : ℕ) → ((j : ℕ) → j < length o → takes (get_or o j 0) (get_or fs (i + j) [])) → Passes (field_checks takes line i o)
  fields_pass [] i h = tt
  fields_pass (k ∷ o) i h = (
    (fs, w, subst (λ a. takes k (get_or fs a [])) (add-zero i) (h 0 (omega arith))),
    fields_pass o (i + 1) (λ j l. let e : i + suc j ≡ (i + 1) + j = omega arith in subst (λ a. takes (get_or o j 0) (get_or fs a [])) e (h (suc j) (omega arith))),
  )

  -- The first field that its column does not take is the fault.
  pub fields_fail : (o : List ℕ) (i n : ℕ) → n < length o → ((j : ℕ) → j < n → takes (get_or o j 0) (get_or fs (i + j) [])) → (takes (get_or o n 0) (get_or fs (i + n) []) → ⊥) → (m : ℕ) → m ≡ i + n + 1 → Fails (field_checks takes line i o) (BadField m)
  fields_fail [] i n l h no' m e = absurd (omega arith)
  fields_fail (k ∷ o) i zero l h no' m e =
      inl (λ t. no' (subst (λ a. takes k (get_or fs a [])) (sym (add-zero i)) (taken i k t)), ap (λ a. BadField a) (let z : m ≡ i + 1 = omega arith in z))
  fields_fail (k ∷ o) i (suc n) l h no' m e =
      inr (
        (fs, w, subst (λ a. takes k (get_or fs a [])) (add-zero i) (h 0 (omega arith))),
        fields_fail o (i + 1) n (omega arith)
            (λ j b. let z : i + suc j ≡ (i + 1) + j = omega arith in subst (λ a. takes (get_or o j 0) (get_or fs a [])) z (h (suc j) (omega arith)))
            (λ t. let z : (i + 1) + n ≡ i + suc n = omega arith in no' (subst (λ a. takes (get_or o n 0) (get_or fs a [])) z t))
            m (omega arith),
      )

-- the first i fields are in their columns
pub record Sofar (takes : ℕ → List ℕ → Type 0) (n : ℕ) (o : List ℕ) (fs : List (List ℕ)) (i : ℕ) (values : List (List ℕ)) (fits : ℕ → Type 0) : Type 0 where
  pub long : length values ≡ n
  pub put : (j : ℕ) → j < i → get_or values (get_or o j 0) [] ≡ get_or fs j []
  pub took : (j : ℕ) → j < i → takes (get_or o j 0) (get_or fs j [])
  pub fit : (j : ℕ) → j < i → fits (get_or o j 0)

module _ (takes : ℕ → List ℕ → Type 0) (n : ℕ) (o : List ℕ) (q : Order n o) (line : List ℕ) (fs : List (List ℕ)) (w : Fields line fs) (many : length fs ≡ length o) (i : ℕ) (values : List (List ℕ)) (fits : ℕ → Type 0) (s : Sofar takes n o fs i values fits) where
  -- One field more: its column is none of those before, which stay as they were.
  pub one_more : i < length o → (t : List ℕ) → t ≡ get_or fs i [] → takes (get_or o i 0) t → (values' : List (List ℕ)) (fits' : ℕ → Type 0) → PutAt (get_or o i 0) t values values' fits fits' → Sofar takes n o fs (i + 1) values' fits'
  one_more l t is took values' fits' p =
      let k = get_or o i 0 in
      let in' : k < length values = omega (arith, s.long, All-from_recursion (λ y. y < n) o q.below i 0 l) in
      let last : (P : ℕ → Type 0) → P i → (j : ℕ) → j < i + 1 → i ≤ j → P j = λ P h j a b. let e : i ≡ j = omega arith in subst P e h in
      record {
        long = ap length p.is ∙ length-set values k t ∙ s.long;
        put = λ j m. ap (λ v. get_or v (get_or o j 0) []) p.is ∙ ⊎_elim
            (λ before. get_or-set_other values k (get_or o j 0) t [] (q.once j i before l) ∙ s.put j before)
            (last (λ a. get_or (set values k t) (get_or o a 0) [] ≡ get_or fs a []) (get_or-set_same values k t [] in' ∙ is) j m)
            (cases_lt j i);
        took = λ j m. ⊎_elim (s.took j) (last (λ a. takes (get_or o a 0) (get_or fs a [])) (subst (takes k) is took) j m) (cases_lt j i);
        fit = λ j m. ⊎_elim (λ before. p.others (get_or o j 0) (q.once j i before l) (s.fit j before)) (last (λ a. fits' (get_or o a 0)) p.here j m) (cases_lt j i);
      }

  -- A field that its column does not take, after those that theirs took.
  pub refused : i < length o → (t : List ℕ) → t ≡ get_or fs i [] → (takes (get_or o i 0) t → ⊥) → Fails (field_checks takes line 0 o) (BadField (i + 1))
  refused l t is no' =
      let z : (j : ℕ) → j ≡ 0 + j = λ j. omega arith in
      fields_fail takes line fs w o 0 i l (λ j m. subst (λ a. takes (get_or o j 0) (get_or fs a [])) (z j) (s.took j m)) (λ h. no' (subst (takes (get_or o i 0)) (sym is) (subst (λ a. takes (get_or o i 0) (get_or fs a [])) (sym (z i)) h))) (i + 1) (omega arith)

  pub done : length o ≤ i → Filled takes o line values fits
  done all = record {
    is = w.is ∙ ap spaced (same_lists fs (arranged o values) (many ∙ sym (length-map o (λ k. get_or values k []))) (λ j d l. get_or_default fs j d [] l ∙ sym (s.put j (omega arith)) ∙ sym (get_or-map (λ k. get_or values k []) o j 0 d (omega arith))));
    passes = fields_pass takes line fs w o 0 (λ j l. let z : j ≡ 0 + j = omega arith in subst (λ a. takes (get_or o j 0) (get_or fs a [])) z (s.took j (omega arith)));
    fit = λ k l. let t = each n o q k (omega (arith, q.long)) in subst fits t.2 (s.fit t.0 (omega (arith, t.1)));
  }
