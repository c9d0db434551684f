-- What the small functions that use channels answer.
use Rattle.std.specs.Prelude.{◌≡◌, ℕ, ◌<◌, ◌≤◌, [], ◌∷◌, length, Ok, Err, Result, slice_index_or}
use Rattle.channel.specs.declared.item.Item.{Item}
use Rattle.channel.specs.declared.item.ChannelFault.{ChannelFault}
use Rattle.channel.specs.declared.item.ChannelFault.TheVariants.{Full}
use Rattle.channel.specs.Holds.{Holding, Added, Taken}

-- The parts went in behind those that waited, and then the item of the pick came out; refused, with no change, exactly
-- if the channel was full.
abbrev pub Passed : {C P : Type 0} → Holding C P → C → P → ℕ → C → Result (Item P) ChannelFault → Type 0
Passed {C = C} h old parts pick new (Ok item) = (between : C) × Added h old parts between (Ok tt) × Taken h between pick new (Ok item)
Passed h old parts pick new (Err f) = (h.capacity old ≤ length (h.waits old)) × (f ≡ Full) × (new ≡ old)

-- Of two parts put into an empty channel of this capacity, the one at place i (0 the first, 1 the second) came out;
-- refused exactly if there was no room for two.
abbrev pub OfTwo : {P : Type 0} → ℕ → P → P → ℕ → Result P ChannelFault → Type 0
OfTwo capacity a b i (Ok p) = (2 ≤ capacity) × (p ≡ slice_index_or (a ∷ b ∷ []) i p) × (i < 2)
OfTwo capacity a b i (Err f) = (capacity < 2) × (f ≡ Full)

-- the same for any meaning of a channel: the place is the one that it gives the pick where the two wait
abbrev pub OfTwoBy : {C P : Type 0} → Holding C P → ℕ → P → P → ℕ → Result P ChannelFault → Type 0
OfTwoBy {C = C} h capacity a b pick (Ok p) = (both : C) × (h.waits both ≡ record { parts = a } ∷ record { parts = b } ∷ []) × OfTwo capacity a b (h.place both pick) (Ok p)
OfTwoBy h capacity a b pick (Err f) = (capacity < 2) × (f ≡ Full)
