-- Lists of items kept in the first slots.
use Rattle.std.proofs.Common.{◌≡◌, ℕ, suc, ◌+◌, ◌-◌, ◌<◌, ◌≤◌, List, ◌++◌, length, get_or, take, drop, sym, ap, ◌∙◌, add-one, arith}
use borrow.Rule.Slice.PartMut.{put_mid}
use Rattle.std.proofs.lemmas.List.{length-take-le, length-drop, length-append, get_or-take, get_or_default, take-take, take_at, append_assoc, drop-take, drop-drop}
use Rattle.std.proofs.lemmas.Slice.{take-put_mid}
use Rattle.channel.specs.declared.item.Item.{Item}
use Rattle.channel.specs.Holds.{TakenAt}

-- The item at place p of the first n is taken by turning the part from p to n by one: those behind it move one place
-- down in their order, it stands last of the n, and the count goes down by one.
pub part_taken : {P : Type 0} (xs mid : List (Item P)) (p n : ℕ) (d : Item P) → p < n → n ≤ length xs
    → mid ≡ drop 1 (take (n - p) (drop p xs)) ++ take 1 (take (n - p) (drop p xs))
    → TakenAt (take n xs) (take (n - 1) (put_mid p (n - p) xs mid)) p (get_or xs p d)
part_taken xs mid p n d low fits e =
    let b = take (n - p) (drop p xs) in
    let m : ℕ = n - 1 - p in
    let len : length (take n xs) ≡ n = length-take-le n xs fits in
    let lb : length b ≡ n - p = length-take-le (n - p) (drop p xs) (omega (arith, length-drop p xs)) in
    let ld : length (drop 1 b) ≡ m = omega (arith, length-drop 1 b) in
    let lm : length mid ≡ n - p = ap length e ∙ omega (arith, length-append (drop 1 b) (take 1 b), length-take-le 1 b (omega arith)) in
    let lp : length (take p xs ++ drop 1 b) ≡ n - 1 = omega (arith, length-append (take p xs) (drop 1 b), length-take-le p xs (omega arith)) in
    let whole : take n (put_mid p (n - p) xs mid) ≡ (take p xs ++ drop 1 b) ++ take 1 b =
    take-put_mid p (n - p) xs mid n (omega arith) (omega arith) ∙ ap (λ q. take p xs ++ q) e ∙ sym (append_assoc (take p xs) (drop 1 b) (take 1 b)) in
    let front : take (n - 1) (put_mid p (n - p) xs mid) ≡ take p xs ++ drop 1 b =
    sym (take-take (n - 1) n (put_mid p (n - p) xs mid) (omega arith)) ∙ ap (take (n - 1)) whole ∙ take_at (take p xs ++ drop 1 b) (take 1 b) (n - 1) lp in
    let k : n - p ≡ 1 + m = omega arith in
    let s : p + 1 ≡ suc p = add-one p in
    let part : drop 1 b ≡ take m (drop (suc p) xs) =
    ap (λ j. drop 1 (take j (drop p xs))) k ∙ drop-take 1 m (drop p xs) ∙ ap (take m) (drop-drop 1 p xs ∙ ap (λ j. drop j xs) s) in
    let j : n ≡ suc p + m = omega arith in
    let back : drop (suc p) (take n xs) ≡ take m (drop (suc p) xs) = ap (λ i. drop (suc p) (take i xs)) j ∙ drop-take (suc p) m xs in
    record {
      within = omega arith;
      at = get_or-take n xs p _ low ∙ get_or_default xs p _ d (omega arith);
      rest = front ∙ ap (λ q. take p xs ++ q) (part ∙ sym back) ∙ ap (λ q. q ++ drop (suc p) (take n xs)) (sym (take-take p n xs (omega arith)));
    }
