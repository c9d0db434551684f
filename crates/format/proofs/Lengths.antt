-- The order of the columns does not change the length of a line, so it does not change that of a file.
use Rattle.std.proofs.Common.{◌≡◌, ℕ, zero, suc, ◌+◌, ◌<◌, List, [], ◌∷◌, ◌++◌, map, length, get_or, sym, refl, ap, ◌∙◌, subst, inl, inr, arith}
use mathlib.Core.List.{Memᴰ}
use Rattle.std.specs.List.{flat_map}
use Rattle.std.proofs.lemmas.List.{length-append}
use Rattle.text.specs.Lines.{spaced}
use Rattle.vocab.specs.declared.kinds.Table.TheVariants.{Settings, Links, Steps}
use Rattle.format.specs.Columns.{Order, arranged, row, table}
use Rattle.format.specs.Tables.{setting_values, link_values, step_values}
use Rattle.vocab.specs.Words.{names}
use Rattle.format.specs.Content.{Content, text, standard, setting_text, links_text, steps_text}
use Rattle.format.proofs.Orders.{distinct, below}
use Rattle.mesh.proofs.Pigeons.{Distinct, find, pigeons, sum_over}

-- the sum of g over the numbers below n
abbrev upto : (ℕ → ℕ) → ℕ → ℕ
upto g zero = 0
upto g (suc n) = g n + upto g n

-- Distinct numbers below n, n of them, are all the numbers below n: the greatest is among them (else they would be
-- too many), and the others are those below it.
sum_all : (g : ℕ → ℕ) (n : ℕ) (xs : List ℕ) → Distinct xs → ((x : ℕ) → Memᴰ x xs → x < n) → length xs ≡ n → sum_over g xs ≡ upto g n
sum_all g zero [] d b e = refl
sum_all g zero (x ∷ xs) d b e = absurd (omega arith)
sum_all g (suc n) xs d b e = elim (find n xs d) [
  | inl f ↦ absurd (omega (arith, pigeons n xs d (λ x h. let ne : x ≡ n → ⊥ = λ q. f (subst (λ y. Memᴰ y xs) q h) in omega (arith, b x h, ne))))
  | inr r ↦ r.total g ∙ ap (λ s. g n + s) (sum_all g n r.ys r.distinct (λ x h. omega (arith, b x (r.within x h), r.apart x h)) (omega (arith, r.size)))
]

sum_order : (g : ℕ → ℕ) (n : ℕ) (o p : List ℕ) → Order n o → Order n p → sum_over g o ≡ sum_over g p
sum_order g n o p q r = sum_all g n o (distinct o q.once) (below n o q) q.long ∙ sym (sum_all g n p (distinct p r.once) (below n p r) r.long)

-- the length of a line by its fields: each with the byte after it
length_spaced : (xs : List (List ℕ)) (o : List ℕ) → 0 < length o → length (spaced (arranged o xs)) + 1 ≡ sum_over (λ k. length (get_or xs k []) + 1) o
length_spaced xs [] h = absurd (omega arith)
length_spaced xs (k ∷ []) h = omega arith
length_spaced xs (k ∷ j ∷ o) h =
    let r = length_spaced xs (j ∷ o) (omega arith) in
    omega (arith, r, length-append (get_or xs k []) (32 ∷ spaced (arranged (j ∷ o) xs)))

row_length : (n : ℕ) (o p : List ℕ) (xs : List (List ℕ)) → 0 < n → Order n o → Order n p → length (row o xs) ≡ length (row p xs)
row_length n o p xs some q r =
    omega (arith, length-append (spaced (arranged o xs)) (10 ∷ []), length-append (spaced (arranged p xs)) (10 ∷ []), length_spaced xs o (omega (arith, q.long)), length_spaced xs p (omega (arith, r.long)), sum_order (λ k. length (get_or xs k []) + 1) n o p q r)

rows_length : (n : ℕ) (o p : List ℕ) (rs : List (List (List ℕ))) → 0 < n → Order n o → Order n p → length (flat_map (row o) rs) ≡ length (flat_map (row p) rs)
rows_length n o p [] some q r = refl
rows_length n o p (x ∷ rs) some q r =
    omega (arith, length-append (row o x) (flat_map (row o) rs), length-append (row p x) (flat_map (row p) rs), row_length n o p x some q r, rows_length n o p rs some q r)

table_length : (n : ℕ) (o p : List ℕ) (ws : List (List ℕ)) (rs : List (List (List ℕ))) → 0 < n → Order n o → Order n p → length (table o ws rs) ≡ length (table p ws rs)
table_length n o p ws rs some q r =
    omega (arith, length-append (row o ws) (flat_map (row o) rs), length-append (row p ws) (flat_map (row p) rs), row_length n o p ws some q r, rows_length n o p rs some q r)

-- the standard orders are orders
below_five : (i : ℕ) → i < 5 → get_or (0 ∷ 1 ∷ 2 ∷ 3 ∷ 4 ∷ []) i 0 ≡ i
below_five zero h = refl
below_five (suc zero) h = refl
below_five (suc (suc zero)) h = refl
below_five (suc (suc (suc zero))) h = refl
below_five (suc (suc (suc (suc zero)))) h = refl
below_five (suc (suc (suc (suc (suc i))))) h = absurd (omega arith)

below_four : (i : ℕ) → i < 4 → get_or (0 ∷ 1 ∷ 2 ∷ 3 ∷ []) i 0 ≡ i
below_four zero h = refl
below_four (suc zero) h = refl
below_four (suc (suc zero)) h = refl
below_four (suc (suc (suc zero))) h = refl
below_four (suc (suc (suc (suc i)))) h = absurd (omega arith)

below_two : (i : ℕ) → i < 2 → get_or (0 ∷ 1 ∷ []) i 0 ≡ i
below_two zero h = refl
below_two (suc zero) h = refl
below_two (suc (suc i)) h = absurd (omega arith)

pub five : Order 5 (0 ∷ 1 ∷ 2 ∷ 3 ∷ 4 ∷ [])
five = record { long = refl; below = (omega arith, (omega arith, (omega arith, (omega arith, (omega arith, tt))))); once = λ i j l m e. omega (arith, below_five i (omega arith), below_five j m, e) }

pub four : Order 4 (0 ∷ 1 ∷ 2 ∷ 3 ∷ [])
four = record { long = refl; below = (omega arith, (omega arith, (omega arith, (omega arith, tt)))); once = λ i j l m e. omega (arith, below_four i (omega arith), below_four j m, e) }

pub two : Order 2 (0 ∷ 1 ∷ [])
two = record { long = refl; below = (omega arith, (omega arith, tt)); once = λ i j l m e. omega (arith, below_two i (omega arith), below_two j m, e) }

-- A session's text has one length, in whatever order its columns stand.
pub standard_length : (o p q : List ℕ) (c : Content) → Order 5 o → Order 4 p → Order 2 q → length (standard c) ≡ length (text o p q c)
standard_length o p q c a b d =
    omega (
      arith,
      length-append (setting_text o c.setting ++ links_text p c.links) (steps_text q c.steps),
      length-append (setting_text o c.setting) (links_text p c.links),
      length-append (setting_text (0 ∷ 1 ∷ 2 ∷ 3 ∷ 4 ∷ []) c.setting ++ links_text (0 ∷ 1 ∷ 2 ∷ 3 ∷ []) c.links) (steps_text (0 ∷ 1 ∷ []) c.steps),
      length-append (setting_text (0 ∷ 1 ∷ 2 ∷ 3 ∷ 4 ∷ []) c.setting) (links_text (0 ∷ 1 ∷ 2 ∷ 3 ∷ []) c.links),
      table_length 5 o (0 ∷ 1 ∷ 2 ∷ 3 ∷ 4 ∷ []) (names Settings) (setting_values c.setting ∷ []) (omega arith) a five,
      table_length 4 p (0 ∷ 1 ∷ 2 ∷ 3 ∷ []) (names Links) (map link_values c.links) (omega arith) b four,
      table_length 2 q (0 ∷ 1 ∷ []) (names Steps) (map step_values c.steps) (omega arith) d two,
    )
