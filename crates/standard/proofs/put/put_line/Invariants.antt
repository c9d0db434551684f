use Rattle.std.proofs.Common.{map, take}
use Rattle.text.specs.Lines.{spaced}
use Rattle.text.specs.Output.{Appends}
use Rattle.standard.proofs.put.put_line.Given as goal

abbrev pub invariant-loop-i : goal.invariant-loop-i
invariant-loop-i g l = Appends l.fn.output (spaced (map g.F.Put.text (take l.i l.fields))) l.output
