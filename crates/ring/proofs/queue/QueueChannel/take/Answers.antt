use Rattle.std.proofs.Common.{◌≡◌, ◌≤◌, length, take, sym, ap, ◌∙◌, arith}
use Rattle.std.proofs.lemmas.List.{length-take, take_min}
use Rattle.ring.specs.Queues.{turned}
use Rattle.ring.proofs.Turns.{first_taken, length_turned, turned_past}
use Rattle.ring.proofs.queue.QueueChannel.take.Goals as goal
use Rattle.ring.proofs.queue.QueueChannel.take.Goals.{then-self, else-self}

pub returns-clause-taken : goal.returns-clause-taken
returns-clause-taken g c =
    let q = c.args.self.now in
    let xs = q.slots.now in
    let ts = turned q.first xs in
    let n = c.waiting-count.result in
    let p = c.if-self.place in
    let len = length_turned q.first xs in
    let few = length-take q.count ts in
    let e : turned p xs ≡ ts =
    elim c.if-self.branch [ then-self w ↦ ap (λ k. turned k xs) w.place-is | else-self w ↦ ap (λ k. turned k xs) w.place-is ∙ turned_past q.first xs w.if-self.false ] in
    let fits : n ≤ length xs = omega (arith, c.waiting-count.ensures, few, len) in
    let same : take q.count ts ≡ take n ts = sym (take_min q.count ts) ∙ ap (λ m. take m ts) (sym few ∙ sym c.waiting-count.ensures) in
    rw same
    (first_taken xs q.first p n c.index-self-place.result e (omega arith) (omega arith) fits)
