use Rattle.std.proofs.Common.{◌≡◌, length}
use Rattle.replica_core.specs.States.{log_at, known_at}
use Rattle.replica_core.proofs.TrimmedReads.{least_below}
use Rattle.replica_core.proofs.replica.Replica.known_by_all.Given as goal

abbrev pub invariant-loop-peer : goal.invariant-loop-peer
invariant-loop-peer l =
    l.least ≡ least_below l.self.core.replica l.origin (length (log_at l.self.core l.origin)) (λ peer. known_at l.self.core peer l.origin) l.peer
