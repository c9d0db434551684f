-- Lines written field by field.
use Rattle.std.proofs.Common.{◌≡◌, ℕ, ◌+◌, ◌<◌, List, [], ◌∷◌, ◌++◌, map, length, get_or, take, sym, refl, ap, ◌∙◌, subst, append_assoc, arith}
use Rattle.std.specs.List.{flat_map}
use Rattle.std.proofs.lemmas.List.{take_more, map_push, length-map, length-take-le, flat_map_more}
use Rattle.std.proofs.lemmas.List.Folds.{flat_map-map}
use Rattle.text.specs.declared.output.Output.{Output}
use Rattle.text.specs.Lines.{spaced}
use Rattle.text.specs.Output.{Appends}
use Rattle.text.proofs.Stamps.{both_written}

-- the same text
pub same : {o n : Output} {s t : List ℕ} → s ≡ t → Appends o s n → Appends o t n
same {o} {n} e w = subst (λ t. Appends o t n) e w

-- s and then t were written, which are u
pub written_as : {o m n : Output} {s t u : List ℕ} → s ++ t ≡ u → Appends o s m → Appends m t n → Appends o u n
written_as e v w = same e (both_written v w)

pub written_up_to : {o m n : Output} {s : List ℕ} → n ≡ m → Appends o s m → Appends o s n
written_up_to {o} {m} {n} {s} e v = subst (Appends o s) (sym e) v

-- a first field, and one more
spaced_first : (fs : List (List ℕ)) (f : List ℕ) → length fs ≡ 0 → spaced fs ++ f ≡ spaced (fs ++ f ∷ [])
spaced_first [] f none = refl
spaced_first (g ∷ fs) f none = absurd (omega arith)

spaced_more : (fs : List (List ℕ)) (f : List ℕ) → 0 < length fs → (spaced fs ++ 32 ∷ []) ++ f ≡ spaced (fs ++ f ∷ [])
spaced_more [] f some = absurd (omega arith)
spaced_more (g ∷ []) f some = append_assoc g (32 ∷ []) f
spaced_more (g ∷ h ∷ fs) f some = rw (← spaced_more (h ∷ fs) f (omega arith)) (simp append_assoc)

module _ {X : Type 0} (text : X → List ℕ) (xs : List X) (i : ℕ) (x : X) (in' : i < length xs) (is : x ≡ get_or xs i x) where
  more : map text (take (i + 1) xs) ≡ map text (take i xs) ++ text x ∷ []
  more = ap (map text) (take_more xs i x in') ∙ map_push text (take i xs) (get_or xs i x) ∙ ap (λ y. map text (take i xs) ++ text y ∷ []) (sym is)

  many : length (map text (take i xs)) ≡ i
  many = simp length-map (length-take-le i xs (omega arith))

  pub first_field : i ≡ 0 → spaced (map text (take i xs)) ++ text x ≡ spaced (map text (take (i + 1) xs))
  first_field none = spaced_first _ (text x) (omega (arith, many)) ∙ ap spaced (sym more)

  pub next_field : 0 < i → (spaced (map text (take i xs)) ++ 32 ∷ []) ++ text x ≡ spaced (map text (take (i + 1) xs))
  next_field some = spaced_more _ (text x) (omega (arith, many)) ∙ ap spaced (sym more)

-- one row more
pub next_row : {X : Type 0} (row : X → List ℕ) (names : List ℕ) (xs : List X) (i : ℕ) (x : X) → i < length xs → x ≡ get_or xs i x → (names ++ flat_map row (take i xs)) ++ row x ≡ names ++ flat_map row (take (i + 1) xs)
next_row row names xs i x in' is =
    flat_map_more row names (take i xs) x
    ∙ ap (λ y. names ++ flat_map row (take i xs ++ y ∷ [])) is
    ∙ ap (λ ys. names ++ flat_map row ys) (sym (take_more xs i x in'))

-- the rows of a table
pub rows_text : {X : Type 0} (row : List (List ℕ) → List ℕ) (values : X → List (List ℕ)) (names : List ℕ) {xs ys : List X} → xs ≡ ys → names ++ flat_map (λ x. row (values x)) xs ≡ names ++ flat_map row (map values ys)
rows_text row values names {xs} {ys} e = ap (λ zs. names ++ flat_map (λ x. row (values x)) zs) e ∙ ap (λ t. names ++ t) (sym (flat_map-map row values ys))
