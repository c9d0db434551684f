-- A line has its fields in one way: what the type of a line needs. No contract cites it, and nobody has to read it.
use Rattle.std.specs.Prelude.{◌≡◌, ℕ, List, [], ◌∷◌, ◌++◌, length, refl}
use Rattle.std.proofs.Common.{sym, ap, ◌∙◌, subst, arith}
use Rattle.std.specs.List.{AllByRecursion, AllByRecursion-prop}
use Rattle.std.specs.Coded.{×_prop, le_prop, Coded-set, coded_ℕ, coded_list}
use mathlib.Core.HLevel.{is_prop→PathP}
use Rattle.text.specs.Lines.{Mark, Field, Fields, Cut, HasFields, spaced}

-- Two lists that agree, each cut at the first element that does not pass P, have the same cut.
pub same_cut : (P : ℕ → Type 0) (f g : List ℕ) (x y : ℕ) (xs ys : List ℕ) → AllByRecursion P f → AllByRecursion P g → (P x → ⊥) → (P y → ⊥) → f ++ (x ∷ xs) ≡ g ++ (y ∷ ys) → (f ≡ g) × (x ≡ y) × (xs ≡ ys)
same_cut P [] [] x y xs ys a b p q e = (refl, cc, cc)
same_cut P [] (c ∷ g) x y xs ys a b p q e = let k : c ≡ x = cc in absurd (p (subst P k b.0))
same_cut P (c ∷ f) [] x y xs ys a b p q e = let k : c ≡ y = cc in absurd (q (subst P k a.0))
same_cut P (c ∷ f) (d ∷ g) x y xs ys a b p q e =
    let k : c ≡ d = cc in
    let t : f ++ (x ∷ xs) ≡ g ++ (y ∷ ys) = cc in
    let r = same_cut P f g x y xs ys a.1 b.1 p q t in
    let s = r.0 in
    (cc, r.1, r.2)

-- A list that passes P throughout has no element that does not.
pub no_stop : (P : ℕ → Type 0) (f g : List ℕ) (x : ℕ) (xs : List ℕ) → AllByRecursion P g → (P x → ⊥) → f ++ (x ∷ xs) ≡ g → ⊥
no_stop P [] [] x xs b p e = let z : ◌≡◌ {A = ℕ} 0 1 = cc in omega arith
no_stop P [] (c ∷ g) x xs b p e = let k : c ≡ x = cc in p (subst P k b.0)
no_stop P (d ∷ f) [] x xs b p e = let z : ◌≡◌ {A = ℕ} 0 1 = cc in omega arith
no_stop P (d ∷ f) (c ∷ g) x xs b p e = let t : f ++ (x ∷ xs) ≡ g = cc in no_stop P f g x xs b.1 p t

pub no_space : Mark 32 → ⊥
no_space m = omega (arith, m.0)

-- A line has its fields in one way: each field ends at the first byte that no field holds.
pub fields_same : (line : List ℕ) (fs gs : List (List ℕ)) → Fields line fs → Fields line gs → fs ≡ gs
fields_same line [] gs v w = absurd (omega (arith, v.some))
fields_same line (f ∷ fs) [] v w = absurd (omega (arith, w.some))
fields_same line (f ∷ []) (g ∷ []) v w = ap (λ t. t ∷ []) (sym v.is ∙ w.is)
fields_same line (f ∷ []) (g ∷ h ∷ gs) v w = absurd (no_stop Mark g f 32 (spaced (h ∷ gs)) v.each.0.1 no_space (sym w.is ∙ v.is))
fields_same line (f ∷ e ∷ fs) (g ∷ []) v w = absurd (no_stop Mark f g 32 (spaced (e ∷ fs)) w.each.0.1 no_space (sym v.is ∙ w.is))
fields_same line (f ∷ e ∷ fs) (g ∷ h ∷ gs) v w =
    let r = same_cut Mark f g 32 32 (spaced (e ∷ fs)) (spaced (h ∷ gs)) v.each.0.1 w.each.0.1 no_space no_space (sym v.is ∙ w.is) in
    let t = fields_same (spaced (e ∷ fs)) (e ∷ fs) (h ∷ gs) (record { is = refl; each = v.each.1; some = omega arith }) (record { is = r.2; each = w.each.1; some = omega arith }) in
    let s = r.0 in cc

field_prop : (f : List ℕ) → IsProp (Field f)
field_prop f = ×_prop le_prop (AllByRecursion-prop Mark (λ b. ×_prop le_prop le_prop) f)

fields_prop : (line : List ℕ) (fs : List (List ℕ)) → IsProp (Fields line fs)
fields_prop line fs v w = λ i. record {
  is = Coded-set (coded_list coded_ℕ) line (spaced fs) v.is w.is i;
  each = AllByRecursion-prop Field field_prop fs v.each w.each i;
  some = le_prop v.some w.some i;
}

-- so that a line has that many fields in one way at most
pub has_fields_once : (line : List ℕ) (n : ℕ) → IsProp (HasFields line n)
has_fields_once line n v w =
    let p = fields_same line v.0 w.0 v.1.0 w.1.0 in
    λ i. (p i, is_prop→PathP (λ j. Cut n line (p j)) (λ j. ×_prop (fields_prop line (p j)) (Coded-set coded_ℕ (length (p j)) n)) v.1 w.1 i)
