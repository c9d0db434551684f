-- The queue as a channel over slots: it takes the oldest item. Its meaning is total: it makes sense of any slots and any
-- numbers.
use Rattle.std.specs.Prelude.{ℕ, List, ◌++◌, length, take, drop}
use Rattle.std.proofs.Common.{arith, length-take, length-drop, length-append}
use Rattle.channel.specs.declared.item.Item.{Item}
use Rattle.channel.specs.Holds.{Holding, Sound}
use Rattle.ring.specs.declared.queue.Queue.{Queue}

-- the slots from place f on, and then those before it
abbrev pub turned : {X : Type 0} → ℕ → List X → List X
turned f xs = drop f xs ++ take f xs

-- the items of a queue lie in `count` slots from `first` on, round the end
abbrev pub queue_waits : {P : Type 0} → Queue P → List (Item P)
queue_waits q = take q.count (turned q.first q.slots.now)

abbrev pub queue_holds : {P : Type 0} → Holding (Queue P) P
queue_holds = record { waits = queue_waits; capacity = λ q. length q.slots.now; place = λ q pick. 0 }

pub queue_sound : {P : Type 0} → Sound (queue_holds {P = P})
queue_sound = record {
  within = λ q.
      let xs = q.slots.now in
      omega (arith, length-take q.count (turned q.first xs), length-append (drop q.first xs) (take q.first xs), length-drop q.first xs, length-take q.first xs);
  there = λ q pick h. h;
}
