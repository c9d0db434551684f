use Rattle.std.proofs.Common.{refl, arith}
use Rattle.std.proofs.lemmas.List.{take_more_set, length-take, length-set}
use Rattle.pile.proofs.pile.PileChannel.put.Goals as goal

pub returns-then-self : goal.returns-then-self
returns-then-self g c = record { added = (omega (arith, length-take c.args.self.now.count c.args.self.now.slots.now), refl, refl); same = refl }

pub returns : goal.returns
returns g c =
    let xs = c.args.self.now.slots.now in
    let n = c.args.self.now.count in
    record { added = (omega (arith, length-take n xs), take_more_set xs n _ (omega arith)); same = length-set xs n _ }
