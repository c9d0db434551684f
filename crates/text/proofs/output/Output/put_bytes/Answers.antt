use Rattle.std.proofs.lemmas.List.{take_more}
use Rattle.text.proofs.Stamps.{both_written}
use Rattle.text.proofs.output.Output.put_bytes.Goals as goal

pub loop-b-preserved : goal.loop-b-preserved
loop-b-preserved c = rw (take_more c.args.bytes.now c.loop-b.b-index 0 c.loop-b-test.true) (both_written c.loop-b.invariant c.put_byte.ensures)
