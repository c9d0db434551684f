use Rattle.std.proofs.Common.{refl, arith}
use Rattle.vocab.specs.declared.kinds.Action.TheVariants.{Deliver, Work, Control}
use Rattle.vocab.proofs.words.ActionWord.all.Goals as goal

-- each value stands at its place
pub returns : goal.returns
returns c Deliver = (0, omega arith, refl)
returns c Work = (1, omega arith, refl)
returns c Control = (2, omega arith, refl)
