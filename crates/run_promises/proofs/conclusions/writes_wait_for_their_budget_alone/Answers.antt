use Rattle.run_promises.proofs.FreeCalls.{settled_write-done}
use Rattle.run_promises.proofs.conclusions.writes_wait_for_their_budget_alone.Goals as goal

pub returns : goal.returns
returns c = λ setup replica part moment weights op settled fits. settled_write-done setup replica part settled moment weights op fits
