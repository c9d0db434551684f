use Rattle.std.proofs.Common.{false, get_or, inl, inr, arith}
use Rattle.std.proofs.lemmas.Bool.{cases_Bool}
use Rattle.credit.specs.ValuesLemmas.{whole_taken, whole_free}
use Rattle.credit.proofs.Values.{whole_alone}
use Rattle.credit.proofs.recovery.CreditDetector.has_announced.Goals as goal

pub returns-clause-one : goal.returns-clause-one
returns-clause-one c =
    let places = c.args.self.now.recovered in (
      λ on. omega (arith, places.part, whole_taken places.taken places.width on),
      λ full. elim (cases_Bool (get_or places.taken 0 false)) [
        | inl on ↦ on
        | inr off ↦ absurd (omega (arith, full, whole_free places.taken places.width off))
      ],
    )

pub returns-clause-alone : goal.returns-clause-alone
returns-clause-alone c on k low =
    let places = c.args.self.now.recovered in whole_alone places.taken places.width places.part on k low
