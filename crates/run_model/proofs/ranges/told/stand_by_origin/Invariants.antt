use Rattle.std.proofs.Common.{◌↔◌, drop}
use Rattle.run_model.proofs.StandByOrigin.{Placed}
use Rattle.run_model.proofs.ranges.told.stand_by_origin.Given as goal

-- all of them stand by origin exactly where those that are left do, from the last origin on
abbrev pub invariant-loop-write : goal.invariant-loop-write
invariant-loop-write l = Placed 0 l.replicas l.writes ↔ Placed l.least l.replicas (drop l.write-index l.writes)
