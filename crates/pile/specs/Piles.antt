-- Piles as channels over slots: the stack takes the newest item, picked the one at the pick's place modulo the number
-- waiting. The meaning is total: it makes sense of any slots and any numbers.
use Rattle.std.specs.Prelude.{ℕ, ◌<◌, List, length, take}
use Rattle.std.proofs.Common.{arith, length-take}
use Rattle.channel.specs.declared.item.Item.{Item}
use Rattle.channel.specs.Holds.{Holding, Sound}
use Rattle.pile.specs.declared.pile.Pile.{Pile}
use Rattle.pile.specs.declared.stack.Newest.{Newest}
use Rattle.pile.specs.declared.picked.Chosen.{Chosen}
use Rattle.pile.specs.Places.{newest, newest_there, chosen, chosen_there}

-- the items of a pile lie in the first `count` slots, the oldest in slot 0
abbrev pub pile_waits : {P R : Type 0} → Pile P R → List (Item P)
pile_waits s = take s.count s.slots.now

abbrev pub pile_capacity : {P R : Type 0} → Pile P R → ℕ
pile_capacity s = length s.slots.now

-- `place n pick` is the place, among n that wait, of the one that a take with this pick takes
abbrev pub pile_holds : {P R : Type 0} → (ℕ → ℕ → ℕ) → Holding (Pile P R) P
pile_holds place = record { waits = pile_waits; capacity = pile_capacity; place = λ s pick. place (length (pile_waits s)) pick }

-- the two sorts
abbrev pub stack_holds : {P : Type 0} → Holding (Pile P Newest) P
stack_holds = pile_holds newest

abbrev pub picked_holds : {P : Type 0} → Holding (Pile P Chosen) P
picked_holds = pile_holds chosen

-- A pile is sound if its rule names an item wherever one waits, and both sorts are.
pub pile_sound : {P R : Type 0} (place : ℕ → ℕ → ℕ) → ((waiting pick : ℕ) → 0 < waiting → place waiting pick < waiting) → Sound (pile_holds {P = P} {R = R} place)
pile_sound place there = record { within = λ s. omega (arith, length-take s.count s.slots.now); there = λ s pick h. there (length (pile_waits s)) pick h }

pub stack_sound : {P : Type 0} → Sound (stack_holds {P = P})
stack_sound = pile_sound newest newest_there

pub picked_sound : {P : Type 0} → Sound (picked_holds {P = P})
picked_sound = pile_sound chosen chosen_there
