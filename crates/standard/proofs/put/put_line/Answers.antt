use Rattle.std.proofs.Common.{◌++◌, [], ◌∷◌, map, ap, arith}
use Rattle.std.proofs.lemmas.List.{take_all}
use Rattle.text.specs.Lines.{spaced}
use Rattle.text.proofs.Stamps.{both_written}
use Rattle.standard.proofs.Lines.{written_as, written_up_to, first_field, next_field}
use Rattle.standard.proofs.put.put_line.Goals as goal
use Rattle.standard.proofs.put.put_line.Goals.{then-i-gt0, else-i-gt0}

pub loop-i-preserved : goal.loop-i-preserved
loop-i-preserved g c = elim c.if-i-gt0.branch [
  | then-i-gt0 w ↦ written_as (next_field _ _ _ _ c.loop-i-test.true c.index-fields-i.is w.if-i-gt0.true) (written_up_to w.output-is (both_written c.loop-i.invariant w.put_byte.ensures)) c.put.ensures
  | else-i-gt0 w ↦ written_as (first_field _ _ _ _ c.loop-i-test.true c.index-fields-i.is (omega arith)) (written_up_to w.output-is c.loop-i.invariant) c.put.ensures
]

pub returns : goal.returns
returns g c = written_as (ap (λ fs. spaced (map g.F.Put.text fs) ++ 10 ∷ []) (take_all c.loop-i.i c.args.fields.now c.loop-i-test.false)) c.loop-i.invariant c.put_byte-2.ensures
