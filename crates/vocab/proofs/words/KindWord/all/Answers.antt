use Rattle.std.proofs.Common.{refl, arith}
use Rattle.vocab.specs.declared.kinds.Kind.TheVariants.{Cost, Width}
use Rattle.vocab.proofs.words.KindWord.all.Goals as goal

-- each value stands at its place
pub returns : goal.returns
returns c Cost = (0, omega arith, refl)
returns c Width = (1, omega arith, refl)
