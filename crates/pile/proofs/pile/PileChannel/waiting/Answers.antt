use Rattle.std.proofs.Common.{arith}
use Rattle.std.proofs.lemmas.List.{length-take}
use Rattle.pile.proofs.pile.PileChannel.waiting.Goals as goal

pub returns : goal.returns
returns g c = omega (arith, length-take c.args.self.now.count c.args.self.now.slots.now)
