-- Lists with one element more.
use Rattle.std.proofs.Common.{◌≡◌, ◌⊎◌, List, ◌∷◌, ◌++◌, refl, inl, inr}
use mathlib.Core.List.Memᴰ
use mathlib.Core.List.{Memᴰ}
use Rattle.routing.specs.Protocol.{OneMore}

module _ {A : Type 0} {x : A} {xs ys : List A} (o : OneMore x xs ys) where
  -- the longer list has the element
  pub more_has : Memᴰ x ys
  more_has = rw o.with (Memᴰ.append_right o.front (Memᴰ.head refl))

  -- and all elements of the shorter
  pub more_keeps : {y : A} → Memᴰ y xs → Memᴰ y ys
  more_keeps {y} h = rw o.with (go (Memᴰ.append_cases o.front (rw o.without at h)))
    where
      go : Memᴰ y o.front ⊎ Memᴰ y o.back → Memᴰ y (o.front ++ (x ∷ o.back))
      go (inl p) = Memᴰ.append_left (x ∷ o.back) p
      go (inr p) = Memᴰ.append_right o.front (Memᴰ.tail p)

  -- and no others
  pub more_only : {y : A} → Memᴰ y ys → (y ≡ x) ⊎ Memᴰ y xs
  more_only {y} h = go (Memᴰ.append_cases o.front (rw o.with at h))
    where
      back : Memᴰ y (o.front ++ o.back) → Memᴰ y xs
      back p = rw o.without p

      tail : (y ≡ x) ⊎ Memᴰ y o.back → (y ≡ x) ⊎ Memᴰ y xs
      tail (inl e) = inl e
      tail (inr p) = inr (back (Memᴰ.append_right o.front p))

      go : Memᴰ y o.front ⊎ Memᴰ y (x ∷ o.back) → (y ≡ x) ⊎ Memᴰ y xs
      go (inl p) = inr (back (Memᴰ.append_left o.back p))
      go (inr p) = tail (Memᴰ.cases_cons p)
