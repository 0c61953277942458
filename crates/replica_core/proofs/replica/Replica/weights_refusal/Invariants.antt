use Rattle.std.proofs.Common.{◌≡◌, drop}
use Rattle.run_model.specs.Replies.{first_some}
use Rattle.replica_core.specs.Calling.{refusal_of}
use Rattle.replica_core.proofs.replica.Replica.weights_refusal.Given as goal

-- the first refusal is that of the weights that are left
abbrev pub invariant-loop-weight : goal.invariant-loop-weight
invariant-loop-weight l =
    first_some (refusal_of l.self.core.budgets) l.weights ≡ first_some (refusal_of l.self.core.budgets) (drop l.weight-index l.weights)
