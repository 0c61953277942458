use Rattle.std.proofs.Common.{◌≡◌, take}
use Rattle.replica_core.specs.Dropped.{past_of}
use Rattle.replica_core.proofs.replica.trimming.past_last.Given as goal

abbrev pub invariant-loop-write : goal.invariant-loop-write
invariant-loop-write l = l.past ≡ past_of (take l.write-index l.writes) l.origin
