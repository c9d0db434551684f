-- What the credit detector means: what it shows, and its balance, by which all credit together is one.
use Rattle.std.specs.Prelude.{◌≡◌, ℕ, ◌+◌, ◌≤◌, Bool, false, List, length, is_some, Some, None, sum_by, count_by, All, Option, nat_le, slice_index_or}
use Rattle.detector.specs.Meaning.{Meaning}
use Rattle.credit.specs.declared.credit.Credit.{Credit}
use Rattle.credit.specs.Holdings.{holding}
use Rattle.credit.specs.Places.{value, whole, credit_of}
use Rattle.credit.specs.Rules.{held_by, Opened, Sent, Received, Idled, Recovered}

-- the credit of an exponent, if there is one
abbrev pub credit_in : Option ℕ → ℕ
credit_in None = 0
credit_in (Some e) = credit_of e

-- the credit that all nodes hold together
abbrev pub all_held : Credit → ℕ
all_held d = sum_by (λ h. credit_in h.held) d.holders.records

-- how many nodes hold some credit
abbrev pub holder_count : Credit → ℕ
holder_count d = count_by (λ h. is_some h.held) d.holders.records

-- the credit of all these exponents together
abbrev pub credits : List ℕ → ℕ
credits es = sum_by credit_of es

-- an exponent that can be halved no more
abbrev pub is_last : Option ℕ → Bool
is_last None = false
is_last (Some e) = nat_le 1000 e

-- the exponents that a message may carry
abbrev pub PossibleMark : ℕ → Type 0
PossibleMark mark = (1 ≤ mark) × (mark ≤ 1000)

-- In balance: all credit, held, in the waiting marks, in the waiting items and recovered, is one.
pub record Balanced (d : Credit) (marks items : List ℕ) : Type 0 where
  pub sum : all_held d + credits marks + credits items + value d.recovered.taken ≡ whole
  -- past the nodes nothing is held
  pub none_past : (k : ℕ) → d.nodes ≤ k → (slice_index_or d.holders.records k (holding None)).held ≡ None
  -- no exponent is above 1,000
  pub held_within : (node e : ℕ) → held_by d node ≡ Some e → e ≤ 1000
  pub marks_within : All PossibleMark marks
  pub items_within : All (λ i. i ≤ 1000) items

-- What the detector means: what it shows, its balance, and the rules of its calls. Each node that holds some credit, and
-- each waiting mark, will be answered by one item: these it owes.
abbrev pub credit_meaning : Meaning Credit
credit_meaning = record {
  nodes = λ d. d.nodes;
  active = λ d node. is_some (held_by d node);
  spent = λ d node. is_last (held_by d node);
  announced = λ d. slice_index_or d.recovered.taken 0 false;
  surplus = 1;
  balance = Balanced;
  owes = λ d marks items. length marks + holder_count d;
  takes_mark = λ d mark. PossibleMark mark;
  takes_item = λ d item. (item ≤ 1000) × (value d.recovered.taken + credit_of item ≤ whole);
  opened = Opened;
  sent = Sent;
  received = Received;
  idled = Idled;
  control = Recovered;
}
