-- Lists of items kept round the end of the slots.
use Rattle.std.proofs.Common.{◌≡◌, ℕ, zero, suc, ◌+◌, ◌-◌, ◌<◌, ◌≤◌, List, [], ◌∷◌, ◌++◌, length, get_or, take, drop, set, sym, refl, ap, ◌∙◌, subst, arith}
use Rattle.std.proofs.Math.Seq.{take-set-lt}
use Rattle.std.proofs.lemmas.List.{length-take-le, length-take, length-drop, length-append, take-append-le, take_all, drop_all, append-nil, append_assoc, drop_more, take_more, drop-set-add, drop-set-lt, take-set-le, set-append_left, set-append_right}
use Rattle.channel.specs.declared.item.Item.{Item}
use Rattle.channel.specs.Holds.{TakenAt}
use Rattle.ring.specs.Queues.{turned}

pub length_turned : {X : Type 0} (f : ℕ) (xs : List X) → length (turned f xs) ≡ length xs
length_turned f xs = omega (arith, length-append (drop f xs) (take f xs), length-drop f xs, length-take f xs)

-- past the end, the turn is none
pub turned_past : {X : Type 0} (f : ℕ) (xs : List X) → length xs ≤ f → turned 0 xs ≡ turned f xs
turned_past f xs h = append-nil xs ∙ sym (ap (λ q. q ++ take f xs) (drop_all f xs h) ∙ take_all f xs h)

-- a write n slots behind slot f, where the end is not reached, is one at place n of the turned list
pub turned_behind : {X : Type 0} (xs : List X) (f n i : ℕ) (y : X) → n < length xs - f → i ≡ f + n → turned f (set xs i y) ≡ set (turned f xs) n y
turned_behind xs f n i y h e =
    rw e
    let a : drop f (set xs (f + n) y) ≡ set (drop f xs) n y = drop-set-add f xs n y in
    let b : take f (set xs (f + n) y) ≡ take f xs = take-set-le f xs (f + n) y (omega arith) in
    ap (λ q. q ++ take f (set xs (f + n) y)) a ∙ ap (λ q. set (drop f xs) n y ++ q) b
    ∙ sym (set-append_left (drop f xs) (take f xs) n y (omega (arith, length-drop f xs)))

-- and so is one round the end
pub turned_round : {X : Type 0} (xs : List X) (f n i : ℕ) (y : X) → n < length xs → length xs - f ≤ n → i ≡ n - (length xs - f) → turned f (set xs i y) ≡ set (turned f xs) n y
turned_round xs f n i y l h e =
    let a : drop f (set xs i y) ≡ drop f xs = drop-set-lt f xs i y (omega arith) in
    ap (λ q. q ++ take f (set xs i y)) a ∙ ap (λ q. drop f xs ++ q) (take-set-lt f xs i y (omega arith) ∙ ap (λ k. set (take f xs) k y) e)
    ∙ sym (set-append_right (drop f xs) (take f xs) (length xs - f) n y (length-drop f xs) h)

-- one slot on, the first one goes to the end
pub turned_head : {X : Type 0} (xs : List X) (p : ℕ) (d : X) → p < length xs → turned p xs ≡ get_or xs p d ∷ (drop (p + 1) xs ++ take p xs)
turned_head xs p d h = ap (λ q. q ++ take p xs) (drop_more xs p d h)

turned_next : {X : Type 0} (xs : List X) (p : ℕ) (d : X) → p < length xs → turned (p + 1) xs ≡ (drop (p + 1) xs ++ take p xs) ++ (get_or xs p d ∷ [])
turned_next xs p d h = ap (λ q. drop (p + 1) xs ++ q) (take_more xs p d h) ∙ sym (append_assoc (drop (p + 1) xs) (take p xs) (get_or xs p d ∷ []))

-- The first of n items round from slot f is taken by starting one slot on with one less: the list turned one on is the
-- old one with its first item at the end, and the count no longer reaches that.
pub first_taken : {P : Type 0} (xs : List (Item P)) (f p n : ℕ) (d : Item P) → turned p xs ≡ turned f xs → p < length xs → 0 < n → n ≤ length xs
    → TakenAt (take n (turned f xs)) (take (n - 1) (turned (p + 1) xs)) 0 (get_or xs p d)
first_taken xs f p zero d e h pos fits = absurd (omega arith)
first_taken xs f p (suc m) d e h pos fits =
    let x = get_or xs p d in
    let rest = drop (p + 1) xs ++ take p xs in
    let len : length rest ≡ length xs - 1 = omega (arith, length-append (drop (p + 1) xs) (take p xs), length-drop (p + 1) xs, length-take-le p xs (omega arith)) in
    let whole : take (suc m) (turned f xs) ≡ x ∷ take m rest = ap (take (suc m)) (sym e ∙ turned_head xs p d h) in
    let left : take (suc m - 1) (turned (p + 1) xs) ≡ take m rest =
    ap (λ k. take k (turned (p + 1) xs)) (omega arith) ∙ ap (take m) (turned_next xs p d h) ∙ take-append-le m rest (x ∷ []) (omega arith) in
    subst (λ o. TakenAt o (take (suc m - 1) (turned (p + 1) xs)) 0 x) (sym whole) (record {
      within = omega arith;
      at = refl;
      rest = left;
    })
