use Rattle.std.proofs.Common.{refl, arith}
use Rattle.vocab.specs.declared.kinds.Detector.TheVariants.{Tree, Credit}
use Rattle.vocab.proofs.words.DetectorWord.all.Goals as goal

-- each value stands at its place
pub returns : goal.returns
returns c Tree = (0, omega arith, refl)
returns c Credit = (1, omega arith, refl)
