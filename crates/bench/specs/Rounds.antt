-- What comes out of a channel in steady use.
use Rattle.std.specs.Prelude.{◌≡◌, ℕ, zero, suc, ◌+◌, ◌*◌, ◌%◌, ◌^◌, ◌⊎◌, List, [], ◌∷◌, ◌++◌}
use Rattle.channel.specs.declared.item.Item.{Item}
use Rattle.channel.specs.Holds.{Holding, TakenAt}

-- the items of n numbers, counting up from `first` and round the end of 32 bits
abbrev pub numbered : ℕ → ℕ → List (Item ℕ)
numbered first zero = []
numbered first (suc n) = numbered first n ++ record { parts = (first + n) % 2 ^ 32 } ∷ []

-- the pick of the number k
abbrev pub pick_of : ℕ → ℕ
pick_of k = k % 2 ^ 32 % 65536 * 7 % 65536

-- n takes, at the picks of the numbers from `first` on, lead from `old` to `new`; the items taken have this sum.
abbrev pub Took : {C : Type 0} → Holding C ℕ → C → ℕ → ℕ → C → ℕ → Type 0
Took h old first zero new sum = (new ≡ old) × (sum ≡ 0)
Took {C = C} h old first (suc n) new sum =
    (mid : C) × (before : ℕ) × (item : Item ℕ)
    × Took h old first n mid before
    × TakenAt (h.waits mid) (h.waits new) (h.place mid (pick_of (first + n))) item
    × (sum ≡ (before + item.parts) % 2 ^ 64)

-- n rounds lead from `old` to `new`: round k puts `burst` numbers from k on, and then takes as many items.
abbrev pub Ran : {C : Type 0} → Holding C ℕ → C → ℕ → ℕ → C → ℕ → Type 0
Ran h old burst zero new sum = (new ≡ old) × (sum ≡ 0)
Ran {C = C} h old burst (suc n) new sum =
    (mid : C) × (full : C) × (before : ℕ) × (taken : ℕ)
    × Ran h old burst n mid before
    × (h.waits full ≡ h.waits mid ++ numbered n burst)
    × Took h full n burst new taken
    × (sum ≡ (before + taken) % 2 ^ 64)

-- The sum of what n rounds took, after `waiting` items were put; or 0.
abbrev pub Sum : {C : Type 0} → Holding C ℕ → C → ℕ → ℕ → ℕ → ℕ → Type 0
Sum {C = C} h old waiting burst n sum = (sum ≡ 0) ⊎ ((full : C) × (new : C) × (h.waits full ≡ h.waits old ++ numbered 0 waiting) × Ran h full burst n new sum)

-- the same of a channel of that sort that begins empty
abbrev pub SumOf : {C : Type 0} → Holding C ℕ → ℕ → ℕ → ℕ → ℕ → Type 0
SumOf {C = C} h waiting burst n sum = (old : C) × (h.waits old ≡ []) × Sum h old waiting burst n sum
