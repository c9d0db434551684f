-- Laws of checks that stand in an order.
use mathlib.Core.Path.{◌≡◌, sym, ◌∙◌}
use mathlib.Core.List.{List, [], ◌∷◌, ◌++◌}
use mathlib.Core.Logic.{inl, inr}
use Rattle.fault.specs.Checks.{Check, Passes, Fails}

-- Two refusals by the same checks say the same: were one check earlier, the other refusal would have it hold.
pub fails_same : {A : Type 0} (cs : List (Check A)) (a b : A) → Fails cs a → Fails cs b → a ≡ b
fails_same [] a b f g = absurd f
fails_same (c ∷ cs) a b (inl f) (inl g) = f.1 ∙ sym g.1
fails_same (c ∷ cs) a b (inl f) (inr g) = absurd (f.0 g.0)
fails_same (c ∷ cs) a b (inr f) (inl g) = absurd (g.0 f.0)
fails_same (c ∷ cs) a b (inr f) (inr g) = fails_same cs a b f.1 g.1

-- Checks that all pass refuse nothing.
pub passes_not_fails : {A : Type 0} (cs : List (Check A)) (a : A) → Passes cs → Fails cs a → ⊥
passes_not_fails [] a p f = f
passes_not_fails (c ∷ cs) a p (inl f) = f.0 p.0
passes_not_fails (c ∷ cs) a p (inr f) = passes_not_fails cs a p.1 f.1

-- Checks one after the other.
pub passes_both : {A : Type 0} (cs ds : List (Check A)) → Passes cs → Passes ds → Passes (cs ++ ds)
passes_both [] ds p q = q
passes_both (c ∷ cs) ds p q = (p.0, passes_both cs ds p.1 q)

pub fails_first : {A : Type 0} (cs ds : List (Check A)) (a : A) → Fails cs a → Fails (cs ++ ds) a
fails_first [] ds a f = absurd f
fails_first (c ∷ cs) ds a (inl f) = inl f
fails_first (c ∷ cs) ds a (inr f) = inr (f.0, fails_first cs ds a f.1)

pub fails_later : {A : Type 0} (cs ds : List (Check A)) (a : A) → Passes cs → Fails ds a → Fails (cs ++ ds) a
fails_later [] ds a p f = f
fails_later (c ∷ cs) ds a p f = inr (p.0, fails_later cs ds a p.1 f)
