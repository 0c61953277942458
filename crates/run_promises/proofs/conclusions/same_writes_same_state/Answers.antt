use Rattle.run_promises.proofs.Staying.{IsSameState-from, value-of_all}
use Rattle.run_promises.proofs.conclusions.same_writes_same_state.Goals as goal

pub returns-clause-same : goal.returns-clause-same
returns-clause-same c = IsSameState-from

pub returns-clause-whole : goal.returns-clause-whole
returns-clause-whole c = value-of_all
