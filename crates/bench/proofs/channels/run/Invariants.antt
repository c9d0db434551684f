use Rattle.bench.specs.Rounds.{Ran}
use Rattle.bench.proofs.channels.run.Given as goal

abbrev pub invariant-loop-round : goal.invariant-loop-round
invariant-loop-round g l = Ran g.C.Channel.holds l.initial.c l.burst l.round l.c l.sum
