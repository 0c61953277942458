use Rattle.std.proofs.Common.{◌≡◌, map, take}
use Rattle.run_model.specs.Histories.{greatest}
use Rattle.tact_base.specs.declared.write.Cover.{Cover}
use Rattle.replica_core.proofs.replica.taking.latest_stamp.Given as goal

abbrev pub invariant-loop-cover : goal.invariant-loop-cover
invariant-loop-cover l = l.latest ≡ greatest (map (λ (cover : Cover). cover.stamp) (take l.cover-index l.covers))
