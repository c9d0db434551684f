use Rattle.std.proofs.Common.{◌≡◌, take, set, refl, ap, ◌∙◌, arith, length-set}
use Rattle.std.proofs.lemmas.List.{take_more_set, length-take}
use Rattle.ring.specs.Queues.{turned}
use Rattle.ring.proofs.Turns.{turned_behind, length_turned, turned_round}
use Rattle.ring.proofs.queue.QueueChannel.put.Goals as goal
use Rattle.ring.proofs.queue.QueueChannel.put.Goals.{then-self-behind, else-self-behind}

pub returns-then-self-size : goal.returns-then-self-size
returns-then-self-size g c =
    let q = c.args.self.now in
    let a = length-take q.count (turned q.first q.slots.now) in
    let b = length_turned q.first q.slots.now in
    record { added = (omega arith, refl, refl); same = refl }

pub returns : goal.returns
returns g c =
    let q = c.args.self.now in
    let xs = q.slots.now in
    let n = q.count in
    let a = length-take n (turned q.first xs) in
    let len = length_turned q.first xs in
    let at : turned q.first (set xs c.if-self-behind.place _) ≡ set (turned q.first xs) n (record { parts = c.args.parts }) =
    elim c.if-self-behind.branch [
      | then-self-behind w ↦ turned_behind xs q.first n _ _ (omega (arith, w.if-self-behind.true)) w.place-is
      | else-self-behind w ↦ turned_round xs q.first n _ _ (omega arith) (omega (arith, w.if-self-behind.false)) (omega (arith, w.place-is))
    ] in
    record {
      added = (omega arith, ap (take _) at ∙ take_more_set (turned q.first xs) n _ (omega arith));
      same = length-set xs _ _;
    }
