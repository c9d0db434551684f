use Rattle.std.proofs.Common.{◌≡◌, ◌==◌, ℕ, ◌<◌, ◌≤◌, get_or, length, sym, rules}
use Rattle.std.proofs.lemmas.Bool.{ne_eqb, eq-eqb}
use Rattle.std.proofs.lemmas.List.Sums.{position_or_len_is}
use Rattle.scan.proofs.columns.place.Goals as goal

pub returns-clause-found : goal.returns-clause-found
returns-clause-found c =
    let order = c.args.order.now in
    let i = c.unwrap_or.result in
    let within : i ≤ length order = search rules in
    let none : (j : ℕ) → j < i → get_or order j 0 ≡ c.args.column → ⊥ = search rules in
    let here : i < length order → get_or order i 0 ≡ c.args.column = search rules in
    sym (position_or_len_is (λ j. j == c.args.column) order i 0 within (λ k l. ne_eqb _ _ (none k l)) (λ l. eq-eqb _ _ (here l)))
