use Rattle.std.proofs.Common.{arith}
use Rattle.routing.specs.Mistakes.{wide, cheap, narrow}
use Rattle.routing.proofs.mistakes.widest_then_cheapest_mistake.Goals as goal

-- The third law, at these labels and this link, contradicts what their ranks are.
pub returns : goal.returns
returns c = record {
  before = omega arith;
  wide_after = omega arith;
  cheap_after = omega arith;
  after = omega arith;
  lawless = λ laws. omega (arith, laws.keeps wide cheap narrow (omega arith));
}
