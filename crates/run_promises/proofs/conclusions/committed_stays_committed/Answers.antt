use Rattle.run_promises.proofs.Staying.{committed-stays}
use Rattle.run_promises.proofs.conclusions.committed_stays_committed.Goals as goal

pub returns : goal.returns
returns c = committed-stays
