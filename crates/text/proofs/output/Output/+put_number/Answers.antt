use Rattle.std.proofs.Common.{◌≡◌, ◌+◌, ◌%◌, ◌∷◌, [], subst, arith}
use Rattle.std.proofs.lemmas.Fmt.{decimal_digit, decimal_step}
use Rattle.text.specs.Output.{Appends}
use Rattle.text.proofs.Stamps.{both_written}
use Rattle.text.proofs.output.Output.+put_number.Goals as goal
use Rattle.text.proofs.output.Output.+put_number.Goals.{then-n-ge10, else-n-ge10}

pub returns : goal.returns
returns t c = elim c.if-n-ge10.branch [
  | then-n-ge10 w ↦ rw (decimal_step c.args.n w.if-n-ge10.true (omega arith)) (both_written w.put_number.ensures (subst (λ o. Appends o _ _) w.self-is c.put_byte.ensures))
  | else-n-ge10 w ↦
      let digit : c.args.n % 10 ≡ c.args.n = omega arith in
      rw (decimal_digit c.args.n w.if-n-ge10.false) (subst (λ d. Appends c.args.self.now ((48 + d) ∷ []) c.put_byte.new.self) digit (subst (λ o. Appends o ((48 + c.args.n % 10) ∷ []) c.put_byte.new.self) w.self-is c.put_byte.ensures))
]
