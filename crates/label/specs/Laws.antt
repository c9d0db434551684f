-- The laws hold of both kinds; and worked cases.
use Rattle.std.specs.Prelude.{◌≡◌}
use Rattle.std.proofs.Common.{arith}
use Rattle.mesh.specs.declared.link.Link.{Link}
use Rattle.label.specs.Kinds.{Lawful}
use Rattle.label.specs.Costs.{cost_kind}
use Rattle.label.specs.Widths.{width_kind}
use Rattle.label.specs.contracts.cost.Cost as cost
use Rattle.label.specs.contracts.width.Width as width
use Rattle.label.specs.declared.cost.Cost.{Cost}
use Rattle.label.specs.declared.width.Width.{Width}

-- two labels of one metric are one label
pub cost_same : (a b : Cost) → a.metric ≡ b.metric → a ≡ b
cost_same a b e = grind (arith, cost.the_row.coded.inj)

pub width_same : (a b : Width) → a.metric ≡ b.metric → a ≡ b
width_same a b e = grind (arith, width.the_row.coded.inj)

-- each kind is lawful
pub cost_lawful : Lawful cost_kind
cost_lawful = record {
  below = λ a. omega arith;
  same = cost_same;
  worst = λ a. a.fits;
  keeps = λ a b l h. omega arith;
  never = λ a l. omega arith;
}

pub width_lawful : Lawful width_kind
width_lawful = record {
  below = λ a. omega arith;
  same = λ a b e. width_same a b (omega arith);
  worst = λ a. omega arith;
  keeps = λ a b l h. omega arith;
  never = λ a l. omega arith;
}

-- Worked cases: the greatest cost extended by a link of cost 0 is itself, and by one of cost 1 is none; a width of 4
-- extended by a link of width 8 is 4.
pub record Worked : Type 0 where
  pub cost_stays : (c : Cost) (l : Link) → c.metric ≡ 4294967294 → l.cost ≡ 0 → cost_kind.extend c l ≡ c
  pub cost_ends : (c : Cost) (l : Link) → c.metric ≡ 4294967294 → l.cost ≡ 1 → cost_kind.extend c l ≡ cost_kind.none
  pub width_stays : (w : Width) (l : Link) → w.metric ≡ 4 → l.width ≡ 8 → width_kind.extend w l ≡ w
