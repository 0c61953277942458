use Rattle.std.proofs.Common.{All, take}
use Rattle.replica_core.specs.Fitting.{IsToldDue}
use Rattle.replica_core.proofs.replica.Replica.are_told_due.Given as goal

abbrev pub invariant-loop-write : goal.invariant-loop-write
invariant-loop-write l = All (IsToldDue l.self.core l.message) (take l.write-index l.message.writes)
