use Rattle.bench.specs.Rounds.{Took}
use Rattle.bench.proofs.channels.drain.Given as goal

abbrev pub invariant-loop-k : goal.invariant-loop-k
invariant-loop-k g l = Took g.C.Channel.holds l.initial.c l.first l.k l.c l.sum
