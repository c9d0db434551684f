use Rattle.std.proofs.Common.{arith}
use Rattle.std.proofs.lemmas.List.{length-take}
use Rattle.ring.specs.Queues.{turned}
use Rattle.ring.proofs.Turns.{length_turned}
use Rattle.ring.proofs.queue.QueueChannel.waiting.Goals as goal

pub returns : goal.returns
returns g c =
    let q = c.args.self.now in
    omega (arith, length-take q.count (turned q.first q.slots.now), length_turned q.first q.slots.now)
