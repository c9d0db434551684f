use Rattle.standard.proofs.Sessions.{reads_back}
use Rattle.standard.proofs.report.write.Goals as goal

pub returns-clause-reads_back : goal.returns-clause-reads_back
returns-clause-reads_back c = reads_back c.args.session.now
