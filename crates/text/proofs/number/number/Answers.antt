use Rattle.std.proofs.Common.{◌+◌, ◌<◌, length, take, get_or, sym, ap, ◌*◌, ◌∙◌, subst, ⊎_elim, arith, true-eqb}
use borrow.Author.Tests.{eqb-false}
use Rattle.std.proofs.lemmas.Bool.{both_ways, cases_lt}
use Rattle.text.proofs.Digits.{Sofar, byte_of, some_of, zero_alone, value_small, done, one_more, past}
use Rattle.std.specs.Int.{IsInRange}
use Rattle.text.proofs.number.number.Goals as goal
use Rattle.text.proofs.number.number.Goals.{then-value-most, else-value-most}

pub returns-then-not-is_ascii_digit : goal.returns-then-not-is_ascii_digit
returns-then-not-is_ascii_digit c (n, w) =
    let is = byte_of _ _ _ (omega arith) n w c.loop-b.b-index c.loop-b-test.true in
    grind (arith, is, c.if-not-is_ascii_digit.ensures.cases)

pub loop-b-preserved : goal.loop-b-preserved
loop-b-preserved c =
    let S = Sofar c.args.high (take (c.loop-b.b-index + 1) c.args.text.now) in
    let digit : IsInRange 48 57 (get_or c.args.text.now c.loop-b.b-index 0) = c.if-not-is_ascii_digit.ensures.cases in
    elim c.if-value-most.branch [
      | then-value-most w ↦
          let more = one_more _ _ _ _ c.loop-b-test.true c.loop-b.invariant digit.0 digit.1 (omega (arith, w.if-value-most.true, c.from-most.ensures)) in
          subst S (sym (w.value-is ∙ ap (λ d. c.loop-b.value * 10 + d) w.from.ensures)) more
      | else-value-most w ↦ subst S (sym w.value-is) (past _ _ _ _ c.loop-b-test.true c.loop-b.invariant digit.0 digit.1 (omega (arith, w.if-value-most.false, c.from-most.ensures)))
    ]

pub returns-then-is_empty : goal.returns-then-is_empty
returns-then-is_empty c (n, w) = let k = some_of _ _ _ (omega arith) n w in omega (arith, true-eqb _ 0 c.if-is_empty.ensures)

pub returns-then-padded : goal.returns-then-padded
returns-then-padded c (n, w) =
    let p = c.padded.ensures.0 c.if-padded.true in
    let k = zero_alone _ _ _ (omega arith) n w p.1 in omega (arith, p.0)

pub returns-then-value-from : goal.returns-then-value-from
returns-then-value-from c (n, w) = let k = value_small _ _ _ (omega arith) _ _ c.loop-b-test.false c.loop-b.invariant n w in omega (arith, w.least, c.from-2.ensures, c.if-value-from.true)

pub returns-then-value-most-2 : goal.returns-then-value-most-2
returns-then-value-most-2 c (n, w) = let k = value_small _ _ _ (omega arith) _ _ c.loop-b-test.false c.loop-b.invariant n w in omega (arith, w.most, c.from-most.ensures)

pub returns : goal.returns
returns c =
    let some : 0 < length c.args.text.now = omega (arith, eqb-false _ _ (sym c.is_empty.ensures ∙ c.if-is_empty.false)) in
    done _ _ _ (omega arith) _ _ c.loop-b-test.false c.loop-b.invariant some
    (λ z. ⊎_elim (λ (long : 1 < length c.args.text.now). absurd (both_ways _ c.if-padded.false (c.padded.ensures.1 (long, z)))) (λ short. omega arith) (cases_lt 1 (length c.args.text.now)))
    (omega (arith, c.if-value-from.false, c.from-2.ensures)) (omega (arith, c.if-value-most-2.false, c.from-most.ensures))
