use Rattle.std.proofs.Common.{◌≢◌, ℕ, ◌<◌, ◌≤◌, length}
use Rattle.replica_core.specs.States.{known_at, log_at}
use Rattle.locked_replica.proofs.locked.Locked.due.Given as goal

-- no earlier origin but the receiver has more
abbrev pub invariant-loop-origin : goal.invariant-loop-origin
invariant-loop-origin l = (k : ℕ) → k < l.origin → k ≢ l.to → length (log_at l.self.core k) ≤ known_at l.self.core l.to k
