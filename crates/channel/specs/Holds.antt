-- What a channel means: the waiting items, oldest first, a capacity, and which of the waiting items a take takes.
use Rattle.std.specs.Prelude.{◌≡◌, ℕ, suc, ◌<◌, ◌≤◌, List, [], ◌∷◌, ◌++◌, length, take, drop, Ok, Err, Result, slice_index_or, codes}
use Rattle.channel.specs.declared.item.Item.{Item}
use Rattle.channel.specs.declared.item.ChannelFault.{ChannelFault}
use Rattle.channel.specs.declared.item.ChannelFault.TheVariants.{Full, Empty}

-- the number of a refusal
abbrev pub channel_fault_number : ChannelFault → ℕ
channel_fault_number Full = 31
channel_fault_number Empty = 32

-- what a refusal is printed as
abbrev pub channel_fault_text : ChannelFault → List ℕ
channel_fault_text Full = codes "no room is left"
channel_fault_text Empty = codes "no item waits"

-- `place c pick` is the place, counted from 0 among the waiting items, of the one that a take with this pick takes
pub record Holding (C P : Type 0) : Type 0 where
  pub waits : C → List (Item P)
  pub capacity : C → ℕ
  pub place : C → ℕ → ℕ

-- never more items wait than the capacity, and a take takes an item that waits
pub record Sound {C P : Type 0} (h : Holding C P) : Type 0 where
  pub within : (c : C) → length (h.waits c) ≤ h.capacity c
  pub there : (c : C) (pick : ℕ) → 0 < length (h.waits c) → h.place c pick < length (h.waits c)

-- a list without its element at place i, the others in their order
abbrev pub without : {X : Type 0} → List X → ℕ → List X
without xs i = take i xs ++ drop (suc i) xs

-- Put adds the item at the end; it is refused exactly if as many wait as the capacity, and then nothing changes.
abbrev pub Added : {C P : Type 0} → Holding C P → C → P → C → Result (Unit {0}) ChannelFault → Type 0
Added h old parts new (Ok _) = (length (h.waits old) < h.capacity old) × (h.waits new ≡ h.waits old ++ record { parts = parts } ∷ [])
Added h old parts new (Err f) = (h.capacity old ≤ length (h.waits old)) × (f ≡ Full) × (new ≡ old)

-- The item at place i was taken out of `old`, and `new` is left.
pub record TakenAt {P : Type 0} (old new : List (Item P)) (i : ℕ) (item : Item P) : Type 0 where
  pub within : i < length old
  pub at : slice_index_or old i item ≡ item
  pub rest : new ≡ without old i

-- Take answers the item at the pick's place and removes that one only; it is refused exactly if none waits, and then
-- nothing changes.
abbrev pub Taken : {C P : Type 0} → Holding C P → C → ℕ → C → Result (Item P) ChannelFault → Type 0
Taken h old pick new (Ok item) = TakenAt (h.waits old) (h.waits new) (h.place old pick) item
Taken h old pick new (Err f) = (length (h.waits old) ≡ 0) × (f ≡ Empty) × (new ≡ old)
