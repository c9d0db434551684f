use Rattle.std.proofs.Common.{◌≡◌, ◌<◌, ◌≤◌, length, take, sym, ap, ◌∙◌, subst, arith}
use Rattle.std.proofs.lemmas.List.{length-take, take_min}
use Rattle.pile.proofs.Slots.{part_taken}
use Rattle.pile.proofs.pile.PileChannel.take.Goals as goal

pub returns-clause-taken : goal.returns-clause-taken
returns-clause-taken g c =
    let q = c.args.self.now in
    let xs = q.slots.now in
    let n = c.waiting-count.result in
    let p = c.place-place.result in
    let at = c.place-place.ensures in
    let low : p < n = subst (λ i. i < n) (sym at) (g.met.R.Rule.there n c.args.pick (omega arith)) in
    let fits : n ≤ length xs = omega (arith, c.waiting-count.ensures, length-take q.count xs) in
    let same : take q.count xs ≡ take n xs = sym (take_min q.count xs) ∙ ap (λ m. take m xs) (sym (length-take q.count xs) ∙ sym c.waiting-count.ensures) in
    rw (sym c.waiting-count.ensures)
    rw (sym at)
    rw same
    (part_taken xs c.rotate_left.new.self p n c.index-self-place.result low fits c.rotate_left.ensures.after)
