use Rattle.std.proofs.Common.{◌≡◌, length}
use Rattle.tact_base.specs.declared.limits.TheConstants.{REPLICAS_MAX}
use Rattle.replica_core.specs.Trimming.{IsKnownByAll}
use Rattle.replica_core.proofs.TrimmedWrites.{AreHad}
use Rattle.replica_core.proofs.replica.Replica.longest_front.Given as goal

abbrev pub invariant-loop-write : goal.invariant-loop-write
invariant-loop-write l = record {
  count : l.count ≡ l.write-index;
  had : AreHad l.self.core l.write-index;
  sized : length l.known ≡ REPLICAS_MAX;
  known : IsKnownByAll l.self.core l.known;
}
