use Rattle.std.proofs.Common.{take}
use Rattle.text.specs.Output.{Appends}
use Rattle.text.proofs.output.Output.put_bytes.Given as goal

abbrev pub invariant-loop-b : goal.invariant-loop-b
invariant-loop-b l = Appends l.initial.self (take l.b-index l.bytes) l.self
