use Rattle.label.proofs.Bests.{path_laws}
use Rattle.label.proofs.laws.root_label.Goals as goal

pub returns-clause-laws : goal.returns-clause-laws
returns-clause-laws g c = path_laws g.K.Label.kind g.met.K.Label.lawful
