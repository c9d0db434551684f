use Rattle.std.proofs.Common.{◌≡◌, ◌++◌}
use Rattle.bench.specs.Rounds.{numbered}
use Rattle.bench.proofs.channels.fill.Given as goal

abbrev pub invariant-loop-k : goal.invariant-loop-k
invariant-loop-k g l = let h = g.C.Channel.holds in h.waits l.c ≡ h.waits l.initial.c ++ numbered l.first l.k
