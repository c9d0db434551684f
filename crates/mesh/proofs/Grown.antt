-- A mesh with one link more.
use Rattle.std.proofs.Common.{◌≡◌, ℕ, ◌+◌, ◌*◌, ◌<◌, Bool, true, false, ◌⊎◌, List, [], ◌∷◌, ◌++◌, length, get_or, take, drop, set, replicate, sym, refl, ap, ◌∙◌, subst, inl, inr, ⊎_elim, arith}
use Rattle.std.proofs.lemmas.List.{length_push, get_or_push, get_or_append_left, get_or_default, take_more, drop_more, length-take-le, get_or-set_same, get_or-set_other, get_or-replicate}
use Rattle.std.proofs.lemmas.Bool.{cases_lt, cases_eq, false≢true}
use Rattle.fault.specs.Checks.{Check, Passes, Fails}
use Rattle.fault.proofs.Ordered.{passes_both, fails_first, fails_later}
use Rattle.mesh.specs.declared.link.Link.{Link}
use Rattle.mesh.specs.declared.link.LinkFault.{LinkFault}
use Rattle.mesh.specs.declared.link.MeshFault.{MeshFault}
use Rattle.mesh.specs.declared.link.MeshFault.TheVariants.{BadLink}
use Rattle.mesh.specs.Rules.{EveryLink, PairsOnce, Joins, FreeKnown, UsedKnown}
use Rattle.mesh.specs.Checks.{link_checks, links_checks, numbered}

-- What holds of every link and of one more, holds of all of them.
pub every_push : (P : Link → Type 0) (ls : List Link) (l : Link) → EveryLink P ls → P l → EveryLink P (ls ++ l ∷ [])
every_push P ls l each here k d h =
    let n = length_push ls l in
    ⊎_elim
    (λ inside. subst P (sym (get_or_append_left ls (l ∷ []) d k inside)) (each k d inside))
    (λ last. let e : length ls ≡ k = omega arith in subst P (sym (get_or_push ls l d k e)) here)
    (cases_lt k (length ls))

-- A link whose pair is new leaves every pair single: two old links differ as before, and an old one that had the new
-- link's pair would join its ends.
pub once_push : (ls : List Link) (l : Link) → PairsOnce ls → (Joins ls l.from l.to → ⊥) → PairsOnce (ls ++ l ∷ [])
once_push ls l once fresh i j d (b, m, (f, g)) =
    let n = length_push ls l in
    let first = get_or_append_left ls (l ∷ []) d i (omega arith) in
    ⊎_elim
    (λ inside.
    let second = get_or_append_left ls (l ∷ []) d j inside in
    once i j d (b, inside, (ap (λ x. x.from) (sym first) ∙ f ∙ ap (λ x. x.from) second, ap (λ x. x.to) (sym first) ∙ g ∙ ap (λ x. x.to) second)))
    (λ last.
    let e : length ls ≡ j = omega arith in
    let second = get_or_push ls l d j e in
    let in' : i < length ls = omega arith in
    fresh (
      i,
      in',
      λ c.
          let first' = get_or_default ls i c d in' ∙ sym first in
          (ap (λ x. x.from) first' ∙ f ∙ ap (λ x. x.from) second, ap (λ x. x.to) first' ∙ g ∙ ap (λ x. x.to) second),
    ))
    (cases_lt j (length ls))

-- a link of a longer table is an old one or the last
joins_left : (ls : List Link) (l : Link) (a b : ℕ) → Joins ls a b → Joins (ls ++ l ∷ []) a b
joins_left ls l a b (i, in', at) =
    (i, omega (arith, length_push ls l), λ d. subst (λ x. (x.from ≡ a) × (x.to ≡ b)) (sym (get_or_append_left ls (l ∷ []) d i in')) (at d))

joins_last : (ls : List Link) (l : Link) → Joins (ls ++ l ∷ []) l.from l.to
joins_last ls l = (length ls, omega (arith, length_push ls l), λ d. subst (λ x. (x.from ≡ l.from) × (x.to ≡ l.to)) (sym (get_or_push ls l d (length ls) refl)) (refl, refl))

joins_cases : (ls : List Link) (l : Link) (a b : ℕ) → Joins (ls ++ l ∷ []) a b → Joins ls a b ⊎ ((l.from ≡ a) × (l.to ≡ b))
joins_cases ls l a b (i, in', at) =
    let n = length_push ls l in
    elim (cases_lt i (length ls)) [
      | inl old ↦ inl (i, old, λ d. subst (λ x. (x.from ≡ a) × (x.to ≡ b)) (get_or_append_left ls (l ∷ []) d i old) (at d))
      | inr last ↦ let e : length ls ≡ i = omega arith in inr (subst (λ x. (x.from ≡ a) × (x.to ≡ b)) (get_or_push ls l l i e) (at l))
    ]

-- The index with the new link's place set is right for the links with the new one: at that place the new link joins the
-- pair; at any other place nothing changed, and the new link joins another pair, since a place has one pair.
module _ (taken : List Bool) (ls : List Link) (l : Link) (square : length taken ≡ 4096) (from_in : l.from < 64) (to_in : l.to < 64) where
  pub free_push : FreeKnown taken ls → FreeKnown (set taken (l.from * 64 + l.to) true) (ls ++ l ∷ [])
  free_push free a b (x, y, off, j) =
      let in' : l.from * 64 + l.to < length taken = omega arith in
      elim (cases_eq (a * 64 + b) (l.from * 64 + l.to)) [
        | inl e ↦ false≢true (sym off ∙ ap (λ k. get_or (set taken (l.from * 64 + l.to) true) k false) e ∙ get_or-set_same taken (l.from * 64 + l.to) true false in')
        | inr ne ↦ elim (joins_cases ls l a b j) [
          | inl old ↦ free a b (x, y, sym (get_or-set_other taken (l.from * 64 + l.to) (a * 64 + b) true false ne) ∙ off, old)
          | inr new ↦ ne (omega (arith, new.0, new.1))
        ]
      ]

  pub used_push : UsedKnown taken ls → UsedKnown (set taken (l.from * 64 + l.to) true) (ls ++ l ∷ [])
  used_push used a b (x, y, on, no') =
      elim (cases_eq (a * 64 + b) (l.from * 64 + l.to)) [
        | inl e ↦
            let f : l.from ≡ a = omega arith in
            let g : l.to ≡ b = omega arith in
            no' (subst (λ m. Joins (ls ++ l ∷ []) m b) f (subst (λ m. Joins (ls ++ l ∷ []) l.from m) g (joins_last ls l)))
        | inr ne ↦ used a b (x, y, sym (get_or-set_other taken (l.from * 64 + l.to) (a * 64 + b) true false ne) ∙ on, λ j. no' (joins_left ls l a b j))
      ]

-- an index that is all false is right where there is no link
pub free_none : (taken : List Bool) (ls : List Link) → length ls ≡ 0 → FreeKnown taken ls
free_none taken ls z a b (x, y, off, (i, in', at)) = omega arith

pub used_none : (taken : List Bool) (ls : List Link) → taken ≡ replicate 4096 false → UsedKnown taken ls
used_none taken ls e a b (x, y, on, no') = false≢true (sym (get_or-replicate 4096 (a * 64 + b) false false (omega arith)) ∙ sym (ap (λ t. get_or t (a * 64 + b) false) e) ∙ on)

numbered_passes : (k : ℕ) (cs : List (Check LinkFault)) → Passes cs → Passes (numbered k cs)
numbered_passes k [] p = tt
numbered_passes k (c ∷ cs) p = (p.0, numbered_passes k cs p.1)

numbered_fails : (k : ℕ) (cs : List (Check LinkFault)) (e : LinkFault) → Fails cs e → Fails (numbered k cs) (BadLink k e)
numbered_fails k [] e f = absurd f
numbered_fails k (c ∷ cs) e (inl f) = inl (f.0, ap (λ x. BadLink k x) f.1)
numbered_fails k (c ∷ cs) e (inr f) = inr (f.0, numbered_fails k cs e f.1)

-- the first k of the links ls passed: the verdict on the others, after these, is the verdict on all
pub record Sofar (nodes : ℕ) (ls : List Link) (k : ℕ) : Type 0 where
  pub passes : Passes (links_checks nodes (take k ls) (drop k ls)) → Passes (links_checks nodes [] ls)
  pub fails : (e : MeshFault) → Fails (links_checks nodes (take k ls) (drop k ls)) e → Fails (links_checks nodes [] ls) e

module _ (nodes : ℕ) (ls : List Link) (k : ℕ) (s : Sofar nodes ls k) where
  module _ (l : Link) (h : k < length ls) (is : get_or ls k l ≡ l) where
    split : drop k ls ≡ l ∷ drop (k + 1) ls
    split = drop_more ls k l h ∙ ap (λ x. x ∷ drop (k + 1) ls) is

    grown : take (k + 1) ls ≡ take k ls ++ l ∷ []
    grown = take_more ls k l h ∙ ap (λ x. take k ls ++ x ∷ []) is

    pub one_more : Passes (link_checks nodes (take k ls) l) → Sofar nodes ls (k + 1)
    one_more p =
        let mine = numbered (length (take k ls)) (link_checks nodes (take k ls) l) in
        let passed = numbered_passes (length (take k ls)) (link_checks nodes (take k ls) l) p in
        record {
          passes = λ q. s.passes (subst (λ t. Passes (links_checks nodes (take k ls) t)) (sym split) (passes_both mine _ passed (subst (λ t. Passes (links_checks nodes t (drop (k + 1) ls))) grown q)));
          fails = λ e f. s.fails e (subst (λ t. Fails (links_checks nodes (take k ls) t) e) (sym split) (fails_later mine _ e passed (subst (λ t. Fails (links_checks nodes t (drop (k + 1) ls)) e) grown f)));
        }

    pub refused : (e : LinkFault) → Fails (link_checks nodes (take k ls) l) e → Fails (links_checks nodes [] ls) (BadLink k e)
    refused e f =
        let n = length-take-le k ls (omega arith) in
        s.fails _ (subst (λ t. Fails (links_checks nodes (take k ls) t) (BadLink k e)) (sym split)
        (fails_first (numbered (length (take k ls)) (link_checks nodes (take k ls) l)) _ _
        (subst (λ m. Fails (numbered m (link_checks nodes (take k ls) l)) (BadLink k e)) (sym n) (numbered_fails k (link_checks nodes (take k ls) l) e f))))
