use Rattle.std.proofs.Common.{refl, arith}
use Rattle.vocab.specs.declared.kinds.Channel.TheVariants.{Queue, Stack, Picked}
use Rattle.vocab.proofs.words.ChannelWord.all.Goals as goal

-- each value stands at its place
pub returns : goal.returns
returns c Queue = (0, omega arith, refl)
returns c Stack = (1, omega arith, refl)
returns c Picked = (2, omega arith, refl)
