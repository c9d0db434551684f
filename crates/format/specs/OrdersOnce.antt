-- An order of columns is one fact: what the type of such an order needs. No contract cites it, and nobody has to read it.
use Rattle.std.specs.Prelude.{ℕ, ◌<◌, List, length}
use Rattle.std.specs.List.{AllByRecursion-prop}
use Rattle.std.specs.Coded.{Π_prop, →_prop, le_prop, Coded-set, coded_ℕ}
use Rattle.format.specs.Columns.{Order}

never_prop : IsProp ⊥
never_prop x y = absurd x

pub order_once : (n : ℕ) (o : List ℕ) → IsProp (Order n o)
order_once n o p q = λ i. record {
  long = Coded-set coded_ℕ (length o) n p.long q.long i;
  below = AllByRecursion-prop (λ k. k < n) (λ k. le_prop) o p.below q.below i;
  once = Π_prop (λ a. Π_prop (λ b. →_prop (→_prop (→_prop never_prop)))) p.once q.once i;
}
