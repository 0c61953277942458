use Rattle.std.proofs.Common.{arith}
use Rattle.run_model.proofs.OriginWrites.{yes, no, iff_trans}
use Rattle.run_model.proofs.StandByOrigin.{Placed-more, Placed-origin, Placed-all, Placed-whole}
use Rattle.run_model.proofs.ranges.told.stand_by_origin.Goals as goal
use Rattle.run_model.proofs.ranges.told.stand_by_origin.Goals.{then-write-least-via-then-write-least, then-write-least-via-else-write-least+then-write-replicas}

pub returns-then-write-least : goal.returns-then-write-least
returns-then-write-least c =
    no (λ placed.
    let here = Placed-origin c.args.writes.now c.loop-write.write-index c.write-item.result (omega arith) c.write-item.is c.loop-write.least c.args.replicas
    (c.loop-write.invariant.0 ((Placed-whole c.args.replicas c.args.writes.now).1 placed)) in
    elim c.then-write-least.branch [
      | then-write-least-via-then-write-least w ↦ omega (arith, here.0)
      | then-write-least-via-else-write-least+then-write-replicas w ↦ omega (arith, here.0, here.1)
    ])

pub loop-write-preserved : goal.loop-write-preserved
loop-write-preserved c =
    iff_trans c.loop-write.invariant
    (Placed-more c.args.writes.now c.loop-write.write-index c.write-item.result (omega arith) c.write-item.is c.loop-write.least c.args.replicas (omega arith) (omega arith))

pub returns : goal.returns
returns c =
    yes ((Placed-whole c.args.replicas c.args.writes.now).0
    (c.loop-write.invariant.1 (Placed-all c.loop-write.least c.args.replicas c.args.writes.now c.loop-write.write-index (omega arith))))
