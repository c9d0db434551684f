use Rattle.std.proofs.Common.{◌+◌, ◌-◌, ◌∙◌, sym, inl, inr, arith}
use Rattle.std.proofs.lemmas.Bool.{both_ways, cases_Bool, not-true, not_from_false, false_from_ne_true}
use Rattle.credit.specs.ValuesLemmas.{whole_taken, credit_some}
use Rattle.credit.proofs.Values.{AllTaken, whole_room, whole_closed, whole_over}
use Rattle.credit.proofs.Parts.{found, not_found, one_free, none_free}
use Rattle.credit.proofs.places.Places.fits.Goals as goal

pub returns-then-is_some : goal.returns-then-is_some
returns-then-is_some c =
    let places = c.args.self.now in
    let free = one_free places.taken 1 (c.from-e.result + 1 - 1) (omega (arith, places.width)) c.last_free.result c.last_free.ensures (sym c.is_some.ensures ∙ c.if-is_some.true) in
    (λ _. whole_room places.taken places.width free.0 c.args.e c.if-not-self.true free.1 (omega arith) c.requires free.3, λ _. c.if-is_some.true)

pub returns-else-is_some : goal.returns-else-is_some
returns-else-is_some c =
    let places = c.args.self.now in
    let i = c.from-e.result in
    let full = none_free places.taken 1 (i + 1 - 1) (omega (arith, places.width)) c.last_free.result c.last_free.ensures (sym c.is_some.ensures ∙ c.if-is_some.false) in
    let run : AllTaken places.taken c.args.e = λ k low high. full k low (omega arith) in
    let r = c.contains.result in
    let behind = c.contains.ensures.cases in
    elim (cases_Bool r) [
      | inl on ↦ (let more = found places.taken (i + 1) (1001 - (i + 1)) (omega (arith, places.width)) _ _ behind on in
          let over = whole_over places.taken places.width c.args.e more.0 c.if-not-self.true c.requires run (omega arith) (omega arith) more.3 in
          (λ closed. absurd (both_ways r (not-true r closed) on), λ room. absurd (omega (arith, room, over))))
      | inr off ↦ (let empty = not_found places.taken (i + 1) (1001 - (i + 1)) (omega (arith, places.width)) _ _ behind off in
          (λ _. omega (arith, whole_closed places.taken places.width c.args.e c.if-not-self.true c.requires run (λ k low high. false_from_ne_true _ (empty k (omega arith) (omega arith)))), λ _. not_from_false r off))
    ]

pub returns-else-not-self : goal.returns-else-not-self
returns-else-not-self c =
    let places = c.args.self.now in
    (λ free. absurd (both_ways _ (not-true _ free) c.if-not-self.false), λ room. absurd (omega (arith, whole_taken places.taken places.width c.if-not-self.false, credit_some c.args.e, room)))
