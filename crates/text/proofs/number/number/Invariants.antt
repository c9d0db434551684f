use Rattle.std.proofs.Common.{take}
use Rattle.text.proofs.Digits.{Sofar}
use Rattle.text.proofs.number.number.Given as goal

abbrev pub invariant-loop-b : goal.invariant-loop-b
invariant-loop-b l = Sofar l.high (take l.b-index l.text) l.value
