-- Distinct numbers below n are at most n.
use Rattle.std.proofs.Common.{◌≡◌, ℕ, zero, suc, ◌+◌, ◌<◌, ◌≤◌, ◌≢◌, ◌⊎◌, List, [], ◌∷◌, length, sym, refl, ap, ◌∙◌, inl, inr, arith}
use mathlib.Core.List.Memᴰ
use mathlib.Core.List.{Memᴰ}
use native.Mathlib.Decide.{ℕ_discrete}

abbrev pub Distinct : List ℕ → Type 0
Distinct [] = Unit {0}
Distinct (x ∷ xs) = (Memᴰ x xs → ⊥) × Distinct xs

-- the sum of g over a list
abbrev pub sum_over : (ℕ → ℕ) → List ℕ → ℕ
sum_over g [] = 0
sum_over g (x ∷ xs) = g x + sum_over g xs

-- ys is xs without n
pub record Without (n : ℕ) (xs : List ℕ) : Type 0 where
  pub ys : List ℕ
  pub size : length xs ≡ suc (length ys)
  pub distinct : Distinct ys
  pub within : (x : ℕ) → Memᴰ x ys → Memᴰ x xs
  pub apart : (x : ℕ) → Memᴰ x ys → x ≢ n
  pub total : (g : ℕ → ℕ) → sum_over g xs ≡ g n + sum_over g ys

-- a number is not in a list of distinct ones, or once, and can be taken out
pub find : (n : ℕ) (xs : List ℕ) → Distinct xs → (Memᴰ n xs → ⊥) ⊎ Without n xs
find n [] d = inl Memᴰ.not-nil
find n (x ∷ xs) (f, d) =
    let rest = find n xs d in
    elim (ℕ_discrete x n) [
      | yes e ↦ inr (record { ys = xs; size = refl; distinct = d; within = λ y h. Memᴰ.tail h; apart = λ y h q. f (Memᴰ.cast (e ∙ sym q) h); total = λ g. ap (λ y. g y + sum_over g xs) e })
      | no c ↦ elim rest [
        | inl g ↦ inl (λ h. elim (Memᴰ.cases_cons h) [ inl e ↦ c (sym e) | inr r ↦ g r ])
        | inr r ↦ inr (record {
          ys = x ∷ r.ys;
          size = ap suc r.size;
          distinct = (λ h. f (r.within x h), r.distinct);
          within = λ y h. elim (Memᴰ.cases_cons h) [ inl e ↦ Memᴰ.head e | inr k ↦ Memᴰ.tail (r.within y k) ];
          apart = λ y h q. elim (Memᴰ.cases_cons h) [ inl e ↦ c (sym e ∙ q) | inr k ↦ r.apart y k q ];
          total = λ g. let t = r.total g in omega arith;
        })
      ]
    ]

-- Take out the greatest number that the bound allows, if it is there, and go on with a bound that is one less.
pub pigeons : (n : ℕ) (xs : List ℕ) → Distinct xs → ((x : ℕ) → Memᴰ x xs → x < n) → length xs ≤ n
pigeons zero [] d b = omega arith
pigeons zero (x ∷ xs) d b = absurd (omega (arith, b x (Memᴰ.head refl)))
pigeons (suc n) xs d b = elim (find n xs d) [
  | inl f ↦ omega (arith, pigeons n xs d (λ x h. let ne : x ≢ n = λ e. f (Memᴰ.cast (sym e) h) in omega (arith, b x h)))
  | inr r ↦ omega (arith, r.size, pigeons n r.ys r.distinct (λ x h. omega (arith, b x (r.within x h), r.apart x h)))
]
