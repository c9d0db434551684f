use Rattle.routing.proofs.Found.{routing_theorem}
use Rattle.routing.proofs.routes.best_routes.Goals as goal

pub returns-clause-theorem : goal.returns-clause-theorem
returns-clause-theorem g c = routing_theorem g.K.Label.kind g.met.K.Label.lawful
