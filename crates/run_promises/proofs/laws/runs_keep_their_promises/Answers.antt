use Rattle.run_promises.proofs.Kept.{IsKept-run}
use Rattle.run_promises.proofs.laws.runs_keep_their_promises.Goals as goal

pub returns : goal.returns
returns c = IsKept-run
