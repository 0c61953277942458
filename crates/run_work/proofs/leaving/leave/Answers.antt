use Rattle.std.proofs.Common.{refl}
use Rattle.run_work.proofs.Coming.{rosters_set}
use Rattle.run_work.proofs.leaving.leave.Goals as goal

pub returns-in_err-push-2-clause-rosters : goal.returns-in_err-push-2-clause-rosters
returns-in_err-push-2-clause-rosters g c = rosters_set c.args.ends.now c.worker.inside.client.now.replica c.index-ends-client.result _ refl

pub returns-clause-rosters : goal.returns-clause-rosters
returns-clause-rosters g c = rosters_set c.args.ends.now c.worker.inside.client.now.replica c.index-ends-client.result _ refl
