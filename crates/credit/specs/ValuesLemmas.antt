-- Lemmas for the law that the detector keeps: sets of places as binary numbers, where what is taken and free decides how the
-- value compares with one. Proofs alone, with nothing to believe: they stand here since the law is given in src/.
use Rattle.std.specs.Prelude.{◌≡◌, ℕ, zero, suc, ◌+◌, ◌-◌, ◌^◌, ◌<◌, ◌≤◌, Bool, true, false, List, [], ◌∷◌, length, drop, slice_index_or, refl}
use Rattle.std.proofs.Common.{sym, ap, ◌∙◌, arith, pow_pos}
use Rattle.std.proofs.Math.Nat.{two-pow-succ}
use Rattle.std.proofs.lemmas.List.{length-drop, get_or-drop}
use Rattle.credit.specs.Places.{place_value, value, whole, credit_of, Added}

-- A place is worth at most what it is worth when taken.
pub place_most : (p : Bool) (n : ℕ) → place_value p n ≤ 2 ^ n
place_most true n = omega arith
place_most false n = omega arith

pub when_taken : (p : Bool) (n : ℕ) → p ≡ true → place_value p n ≡ 2 ^ n
when_taken p n e = ap (λ b. place_value b n) e

pub when_free : (p : Bool) (n : ℕ) → p ≡ false → place_value p n ≡ 0
when_free p n e = ap (λ b. place_value b n) e

-- n places are worth less than 2 to the power n together: the first is worth 2 to the power n - 1 at most, and the rest
-- less than that.
pub value_below : (ps : List Bool) → value ps < 2 ^ length ps
value_below [] = omega arith
value_below (p ∷ ps) = omega (arith, place_most p (length ps), value_below ps, two-pow-succ (length ps))

-- No place taken: no value.
pub value_none : (ps : List Bool) → ((k : ℕ) → k < length ps → slice_index_or ps k false ≡ false) → value ps ≡ 0
value_none [] h = refl
value_none (p ∷ ps) h =
    omega (arith, when_free p (length ps) (h 0 (omega arith)), value_none ps (λ k lt. h (suc k) (omega arith)))

-- Sets of as many places with the same places taken have the same value.
value_same : (ps qs : List Bool) → length qs ≡ length ps → ((k : ℕ) → slice_index_or qs k false ≡ slice_index_or ps k false) → value qs ≡ value ps
value_same [] [] long same = refl
value_same [] (q ∷ qs) long same = absurd (omega arith)
value_same (p ∷ ps) [] long same = absurd (omega arith)
value_same (p ∷ ps) (q ∷ qs) long same =
    let len : length qs ≡ length ps = omega arith in
    let here : place_value q (length qs) ≡ place_value p (length ps) = ap (λ b. place_value b (length qs)) (same 0) ∙ ap (place_value p) len in
    omega (arith, here, value_same ps qs len (λ k. same (suc k)))

-- The first m places are all taken. Then one more credit at the last of them carries through them all: they are freed,
-- and what is left over is a credit worth one place more than all that there are. By induction on m: the credit carried
-- out of the others is as much as the first place is worth, so the two make twice that.
pub value_full : (m : ℕ) (ps : List Bool) → m ≤ length ps → ((k : ℕ) → k < m → slice_index_or ps k false ≡ true) → value ps + 2 ^ (length ps - m) ≡ 2 ^ length ps + value (drop m ps)
value_full zero ps few all = omega (arith, ap (λ n. 2 ^ n) (zero_off (length ps)))
  where
    zero_off : (n : ℕ) → n - 0 ≡ n
    zero_off n = omega arith
value_full (suc m) [] few all = absurd (omega arith)
value_full (suc m) (p ∷ ps) few all =
    let same : 2 ^ (suc (length ps) - suc m) ≡ 2 ^ (length ps - m) = ap (λ n. 2 ^ n) (omega arith) in
    omega (arith, same, when_taken p (length ps) (all 0 (omega arith)), value_full m ps (omega arith) (λ k lt. all (suc k) (omega arith)), two-pow-succ (length ps))

-- The first m places are all free: the value is that of the others.
value_empty : (m : ℕ) (ps : List Bool) → m ≤ length ps → ((k : ℕ) → k < m → slice_index_or ps k false ≡ false) → value ps ≡ value (drop m ps)
value_empty zero ps few none = refl
value_empty (suc m) [] few none = absurd (omega arith)
value_empty (suc m) (p ∷ ps) few none =
    omega (arith, when_free p (length ps) (none 0 (omega arith)), value_empty m ps (omega arith) (λ k lt. none (suc k) (omega arith)))

-- One more credit at place e of n + 1 places adds 2 to the power n - e. Up to the free place nothing differs. From the
-- free place on, the value before has a run of taken places up to e and then the rest; with the credit added the run
-- carries (value_full), which gives just what the free place is worth once taken, and the rest is the same.
pub value_added : (n : ℕ) (ps qs : List Bool) (e : ℕ) → length ps ≡ suc n → e ≤ n → Added ps e qs → value qs ≡ value ps + 2 ^ (n - e)
value_added n ps qs e long few a = go n ps qs a.place e long few a.size a.up_to a.was_free a.were_taken a.is_taken a.are_free a.same_before a.same_beyond
  where
    go : (n : ℕ) (ps qs : List Bool) (p e : ℕ) → length ps ≡ suc n → e ≤ n → length qs ≡ length ps → p ≤ e →
        slice_index_or ps p false ≡ false → ((k : ℕ) → p < k → k ≤ e → slice_index_or ps k false ≡ true) →
        slice_index_or qs p false ≡ true → ((k : ℕ) → p < k → k ≤ e → slice_index_or qs k false ≡ false) →
        ((k : ℕ) → k < p → slice_index_or qs k false ≡ slice_index_or ps k false) → ((k : ℕ) → e < k → slice_index_or qs k false ≡ slice_index_or ps k false) →
        value qs ≡ value ps + 2 ^ (n - e)
    go n [] qs p e long few size low off run on clear front back = absurd (omega arith)
    go n (x ∷ xs) [] p e long few size low off run on clear front back = absurd (omega arith)
    go n (x ∷ xs) (y ∷ ys) zero e long few size low off run on clear front back =
        let nx : n ≡ length xs = omega arith in
        let ny : length ys ≡ length xs = omega arith in
        let first : place_value y (length ys) ≡ 2 ^ length xs = when_taken y (length ys) on ∙ ap (λ k. 2 ^ k) ny in
        let rest : value (drop e ys) ≡ value (drop e xs) =
        value_same (drop e xs) (drop e ys) (omega (arith, length-drop e xs, length-drop e ys))
        (λ k. get_or-drop e ys k false ∙ back (suc (e + k)) (omega arith) ∙ sym (get_or-drop e xs k false)) in
        let power : 2 ^ (n - e) ≡ 2 ^ (length xs - e) = ap (λ k. 2 ^ (k - e)) nx in
        omega (
          arith,
          first,
          rest,
          power,
          when_free x (length xs) off,
          value_full e xs (omega arith) (λ k lt. run (suc k) (omega arith) (omega arith)),
          value_empty e ys (omega arith) (λ k lt. clear (suc k) (omega arith) (omega arith)),
        )
    go n (x ∷ xs) (y ∷ ys) (suc p) zero long few size low off run on clear front back = absurd (omega arith)
    go zero (x ∷ xs) (y ∷ ys) (suc p) (suc e) long few size low off run on clear front back = absurd (omega arith)
    go (suc n) (x ∷ xs) (y ∷ ys) (suc p) (suc e) long few size low off run on clear front back =
        let same : place_value y (length ys) ≡ place_value x (length xs) =
        ap (λ b. place_value b (length ys)) (front 0 (omega arith)) ∙ ap (place_value x) (omega arith) in
        let power : 2 ^ (suc n - suc e) ≡ 2 ^ (n - e) = ap (λ k. 2 ^ k) (omega arith) in
        omega (
          arith,
          same,
          power,
          go n xs ys p e (omega arith) (omega arith) (omega arith) (omega arith) off
              (λ k lo hi. run (suc k) (omega arith) (omega arith)) on (λ k lo hi. clear (suc k) (omega arith) (omega arith))
              (λ k lo. front (suc k) (omega arith)) (λ k lo. back (suc k) (omega arith)),
        )

-- Of n + 1 places, of which place 0 is worth 2 to the power n.
module _ (n : ℕ) where
  -- place 0 is taken: at least that
  pub first_taken : (ps : List Bool) → length ps ≡ suc n → slice_index_or ps 0 false ≡ true → 2 ^ n ≤ value ps
  first_taken [] long on = absurd (omega arith)
  first_taken (p ∷ ps) long on =
      let power : 2 ^ length ps ≡ 2 ^ n = ap (λ k. 2 ^ k) (omega arith) in
      omega (arith, when_taken p (length ps) on, power)

  -- place 0 is free: less than that, for all the others are worth less than place 0 together
  pub first_free : (ps : List Bool) → length ps ≡ suc n → slice_index_or ps 0 false ≡ false → value ps < 2 ^ n
  first_free [] long off = absurd (omega arith)
  first_free (p ∷ ps) long off =
      let power : 2 ^ length ps ≡ 2 ^ n = ap (λ k. 2 ^ k) (omega arith) in
      omega (arith, when_free p (length ps) off, power, value_below ps)

-- The same of the 1,001 places of the detector.
module _ (ps : List Bool) (long : length ps ≡ 1001) where
  pub whole_taken : slice_index_or ps 0 false ≡ true → whole ≤ value ps
  unfolding whole
  whole_taken = first_taken 1000 ps long

  pub whole_free : slice_index_or ps 0 false ≡ false → value ps < whole
  unfolding whole
  whole_free = first_free 1000 ps long

  pub whole_sum : (qs : List Bool) (e : ℕ) → e ≤ 1000 → Added ps e qs → value qs ≡ value ps + credit_of e
  whole_sum qs e few a = value_added 1000 ps qs e long few a

-- exponent 0 is credit one
pub credit_whole : credit_of 0 ≡ whole
unfolding whole
credit_whole = refl

-- the credit of an exponent is twice that of the next
pub credit_halves : (e : ℕ) → e < 1000 → credit_of e ≡ credit_of (e + 1) + credit_of (e + 1)
credit_halves e lt =
    let up : 1000 - e ≡ suc (1000 - (e + 1)) = omega arith in
    ap (λ n. 2 ^ n) up ∙ two-pow-succ (1000 - (e + 1))

pub credit_some : (e : ℕ) → 0 < credit_of e
credit_some e = pow_pos (1000 - e)
