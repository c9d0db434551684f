-- Orders of columns.
use Rattle.std.proofs.Common.{◌≡◌, ℕ, suc, ◌+◌, ◌<◌, ◌⊎◌, List, [], ◌∷◌, ◌++◌, length, get_or, take, Contains, sym, ap, ◌∙◌, subst, inl, inr, ⊎_elim, arith}
use mathlib.Core.List.Memᴰ
use mathlib.Core.List.{Memᴰ}
use native.Mathlib.Decide.{ℕ_discrete}
use Rattle.std.specs.List.{AllByRecursion}
use Rattle.std.proofs.lemmas.List.Elements.{All-from_recursion, Contains-get_or}
use Rattle.std.proofs.lemmas.List.{length_push, map_push, get_or-map, get_or_default, length-map, take_more, get_or_push, get_or_append_left, length-take-le, get_or-take}
use Rattle.std.proofs.lemmas.Bool.{cases_lt}
use Rattle.text.specs.Lines.{Field, Cut, spaced}
use Rattle.text.proofs.Recursion.{pushed}
use Rattle.format.specs.Columns.{Order, arranged}
use Rattle.format.specs.Filling.{Apart}
use Rattle.mesh.proofs.Pigeons.{Distinct, pigeons}

-- Each column stands somewhere in an order: otherwise it and the n of the order would be n + 1 numbers below n.
mem_has : (k : ℕ) (xs : List ℕ) → Memᴰ k xs → (i : ℕ) × (i < length xs) × (get_or xs i 0 ≡ k)
mem_has k [] h = absurd (Memᴰ.not-nil h)
mem_has k (x ∷ xs) h = elim (Memᴰ.cases_cons h) [
  | inl e ↦ (0, omega arith, sym e)
  | inr r ↦ let t = mem_has k xs r in (suc t.0, omega (arith, t.1), t.2)
]

mem_or : (k : ℕ) (xs : List ℕ) → Memᴰ k xs ⊎ (Memᴰ k xs → ⊥)
mem_or k [] = inr Memᴰ.not-nil
mem_or k (x ∷ xs) =
    let rest = mem_or k xs in
    elim (ℕ_discrete k x) [
      | yes e ↦ inl (Memᴰ.head e)
      | no c ↦ elim rest [ inl h ↦ inl (Memᴰ.tail h) | inr g ↦ inr (λ h. elim (Memᴰ.cases_cons h) [ inl e ↦ c e | inr r ↦ g r ]) ]
    ]

abbrev Once : List ℕ → Type 0
Once o = (i j : ℕ) → i < j → j < length o → get_or o i 0 ≡ get_or o j 0 → ⊥

pub distinct : (xs : List ℕ) → Once xs → Distinct xs
distinct [] h = tt
distinct (x ∷ xs) h = (
  λ m. let t = mem_has x xs m in h 0 (suc t.0) (omega arith) (omega (arith, t.1)) (sym t.2),
  distinct xs (λ i j l m e. h (suc i) (suc j) (omega arith) (omega arith) e),
)

pub below : (n : ℕ) (o : List ℕ) → Order n o → (x : ℕ) → Memᴰ x o → x < n
below n o q x r = let t = mem_has x o r in subst (λ y. y < n) t.2 (All-from_recursion (λ y. y < n) o q.below t.0 0 t.1)

pub each : (n : ℕ) (o : List ℕ) → Order n o → (k : ℕ) → k < n → (i : ℕ) × (i < length o) × (get_or o i 0 ≡ k)
each n o q k l = elim (mem_or k o) [
  | inl h ↦ mem_has k o h
  | inr g ↦ absurd (omega (
    arith,
    q.long,
    pigeons n (k ∷ o) (g, distinct o q.once) (λ x h. elim (Memᴰ.cases_cons h) [
      | inl e ↦ subst (λ y. y < n) (sym e) l
      | inr r ↦ below n o q x r
    ]),
  ))
]

-- the first i fields of fs are the words of the columns o
pub record Sofar (ws fs : List (List ℕ)) (i : ℕ) (o : List ℕ) : Type 0 where
  pub is : arranged o ws ≡ take i fs
  pub below : AllByRecursion (λ k. k < length ws) o
  pub once : Once o

-- no order of the words ws is fs
abbrev pub NoOrder : List (List ℕ) → List (List ℕ) → Type 0
NoOrder ws fs = (o : List ℕ) → Order (length ws) o → fs ≡ arranged o ws → ⊥

-- o begins every order that has these fields
module _ (ws fs : List (List ℕ)) (i : ℕ) (o : List ℕ) (apart : Apart ws) (long : length fs ≡ length ws) (in' : i < length fs) (s : Sofar ws fs i o) where
  size : length o ≡ i
  size = sym (length-map o (λ k. get_or ws k [])) ∙ ap length s.is ∙ length-take-le i fs (omega arith)

  -- what an order has at a place
  at : (p : List ℕ) → Order (length ws) p → fs ≡ arranged p ws → (j : ℕ) → j < length fs → (get_or p j 0 < length ws) × (get_or ws (get_or p j 0) [] ≡ get_or fs j [])
  at p q e j l =
      let m : j < length p = omega (arith, q.long) in
      (All-from_recursion (λ k. k < length ws) p q.below j 0 m, sym (get_or-map (λ k. get_or ws k []) p j 0 [] m) ∙ ap (λ t. get_or t j []) (sym e))

  same_at : (p : List ℕ) → Order (length ws) p → fs ≡ arranged p ws → (j : ℕ) → j < i → get_or o j 0 ≡ get_or p j 0
  same_at p q e j l =
      let m : j < length o = omega (arith, size) in
      let h = at p q e j (omega arith) in
      apart (get_or o j 0) (get_or p j 0) (All-from_recursion (λ k. k < length ws) o s.below j 0 m) h.0
      (sym (get_or-map (λ k. get_or ws k []) o j 0 [] m) ∙ ap (λ t. get_or t j []) s.is ∙ get_or-take i fs j [] l ∙ sym h.1)

  -- no word is the next field
  pub unknown : ((k : ℕ) → k < length ws → get_or ws k [] ≡ get_or fs i [] → ⊥) → NoOrder ws fs
  unknown none p q e = let h = at p q e i in' in none _ h.0 h.1

  module _ (k : ℕ) (lt : k < length ws) (word : get_or ws k [] ≡ get_or fs i []) where
    -- the next field's word came before
    pub again : Contains o k → NoOrder ws fs
    again (j, l, here) p q e =
        let m : j < i = omega (arith, size) in
        let h = at p q e i in' in
        q.once j i m (omega (arith, q.long)) (sym (same_at p q e j m) ∙ get_or_default o j 0 k l ∙ here ∙ apart _ _ lt h.0 (word ∙ sym h.1))

    pub one_more : (Contains o k → ⊥) → Sofar ws fs (i + 1) (o ++ k ∷ [])
    one_more new = record {
      is = map_push (λ a. get_or ws a []) o k ∙ ap (λ t. t ++ get_or ws k [] ∷ []) s.is ∙ ap (λ t. take i fs ++ t ∷ []) word ∙ sym (take_more fs i [] in');
      below = pushed (λ a. a < length ws) o k s.below lt;
      once = λ a b l m e.
          let grown = length_push o k in
          let first : get_or (o ++ k ∷ []) a 0 ≡ get_or o a 0 = get_or_append_left o (k ∷ []) 0 a (omega arith) in
          ⊎_elim
          (λ inside. s.once a b l inside (sym first ∙ e ∙ get_or_append_left o (k ∷ []) 0 b inside))
          (λ last. let w : length o ≡ b = omega arith in new (subst (Contains o) (sym first ∙ e ∙ get_or_push o k 0 b w) (Contains-get_or o a 0 (omega arith))))
          (cases_lt b (length o));
    }

-- fields in an order of columns are fields
pub arranged_fields : (o : List ℕ) (xs : List (List ℕ)) → AllByRecursion (λ k. k < length xs) o → AllByRecursion Field xs → AllByRecursion Field (arranged o xs)
arranged_fields [] xs b w = tt
arranged_fields (k ∷ o) xs b w = (All-from_recursion Field xs w k [] b.0, arranged_fields o xs b.1 w)

pub cut_of : (o : List ℕ) (xs : List (List ℕ)) (line : List ℕ) → Order (length xs) o → 0 < length xs → AllByRecursion Field xs → line ≡ spaced (arranged o xs) → Cut (length xs) line (arranged o xs)
cut_of o xs line q some w e =
    let n : length (arranged o xs) ≡ length xs = length-map o (λ k. get_or xs k []) ∙ q.long in
    (record { is = e; each = arranged_fields o xs q.below w; some = omega arith }, n)

-- column k of two rows whose lines have the same fields
pub column : (n : ℕ) (o : List ℕ) → Order n o → (xs ys : List (List ℕ)) → arranged o xs ≡ arranged o ys → (k : ℕ) → k < n → get_or xs k [] ≡ get_or ys k []
column n o q xs ys e k l =
    let t = each n o q k l in
    let f : (zs : List (List ℕ)) → get_or (arranged o zs) t.0 [] ≡ get_or zs k [] = λ zs. get_or-map (λ a. get_or zs a []) o t.0 0 [] t.1 ∙ ap (λ a. get_or zs a []) t.2 in
    sym (f xs) ∙ ap (λ a. get_or a t.0 []) e ∙ f ys
