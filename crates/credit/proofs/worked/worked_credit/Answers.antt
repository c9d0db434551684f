use Rattle.credit.proofs.Cases.{cases}
use Rattle.credit.proofs.worked.worked_credit.Goals as goal

pub returns-clause-hold : goal.returns-clause-hold
returns-clause-hold c = cases
