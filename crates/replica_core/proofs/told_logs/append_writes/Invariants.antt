use Rattle.std.proofs.Common.{◌≡◌, ◌++◌, length}
use Rattle.replica_core.proofs.told_logs.append_writes.Given as goal

abbrev pub invariant-loop-rest : goal.invariant-loop-rest
invariant-loop-rest l = l.writes ++ l.rest ≡ l.initial.writes ++ l.told

abbrev pub decreases-loop-rest : goal.decreases-loop-rest
decreases-loop-rest l = length l.rest
