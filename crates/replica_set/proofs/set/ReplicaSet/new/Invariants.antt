use Rattle.std.proofs.Common.{map}
use Rattle.replica_set.proofs.NewSet.{AreNew}
use Rattle.replica_set.proofs.OneReplica.{core_of}
use Rattle.replica_set.proofs.set.ReplicaSet.new.Given as goal

abbrev pub invariant-loop-replica : goal.invariant-loop-replica
invariant-loop-replica l = AreNew l.config l.replica (map core_of l.replicas.items)
