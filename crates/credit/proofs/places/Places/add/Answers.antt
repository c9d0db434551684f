use Rattle.std.proofs.Common.{◌∙◌, arith}
use Rattle.credit.proofs.Carry.{ends, added, sum, carries, some_free}
use Rattle.credit.proofs.places.Places.add.Goals as goal

pub unwrap-place-requires : goal.unwrap-place-requires
unwrap-place-requires c =
    let before = c.args.self.now in
    some_free before.taken c.args.e c.from-e.result before.width c.requires.small c.from-e.ensures c.last_free.result c.requires.room c.last_free.ensures

pub carry-requires : goal.carry-requires
carry-requires c =
    let before = c.args.self.now in
    let w = ends before.taken c.args.e c.from-e.result before.width c.requires.small c.from-e.ensures c.last_free.result c.unwrap-place.result c.unwrap-place.ensures c.last_free.ensures in
    record { order = w.0; inside = w.1 }

pub invariant_of-self : goal.invariant_of-self
invariant_of-self c =
    let before = c.args.self.now in
    let h = c.carry.ensures in
    let total = sum before.taken c.args.e c.from-e.result before.width c.requires.small c.from-e.ensures c.last_free.result c.unwrap-place.result c.unwrap-place.ensures c.last_free.ensures c.carry.new.taken h.size h.is_taken h.are_free h.same_before h.same_beyond in
    record { width = h.size ∙ before.width; part = omega (arith, c.requires.room, total) }

pub returns : goal.returns
returns c =
    let before = c.args.self.now in
    let h = c.carry.ensures in
    record {
      carries = carries before.taken c.args.e c.from-e.result before.width c.requires.small c.from-e.ensures c.last_free.result c.unwrap-place.result c.unwrap-place.ensures c.last_free.ensures c.carry.new.taken h.size h.is_taken h.are_free h.same_before h.same_beyond;
      places = added before.taken c.args.e c.from-e.result before.width c.requires.small c.from-e.ensures c.last_free.result c.unwrap-place.result c.unwrap-place.ensures c.last_free.ensures c.carry.new.taken h.size h.is_taken h.are_free h.same_before h.same_beyond;
      sum = sum before.taken c.args.e c.from-e.result before.width c.requires.small c.from-e.ensures c.last_free.result c.unwrap-place.result c.unwrap-place.ensures c.last_free.ensures c.carry.new.taken h.size h.is_taken h.are_free h.same_before h.same_beyond;
    }
