use Rattle.std.proofs.Common.{ℕ, ◌<◌, ◌≤◌, length}
use Rattle.run_model.specs.Taking.{told_have}
use Rattle.replica_core.specs.States.{log_at}
use Rattle.locked_replica.proofs.locked.Locked.answer_due.Given as goal

-- no earlier origin has more than is told of
abbrev pub invariant-loop-origin : goal.invariant-loop-origin
invariant-loop-origin l = (k : ℕ) → k < l.origin → length (log_at l.self.core k) ≤ told_have l.message k
