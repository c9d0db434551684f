use Rattle.std.proofs.Common.{false}
use Rattle.detector.specs.Tables.{replicated}
use Rattle.credit.proofs.places.Places.none.Goals as goal

pub returns-clause-free : goal.returns-clause-free
returns-clause-free c k = replicated 1001 k false
