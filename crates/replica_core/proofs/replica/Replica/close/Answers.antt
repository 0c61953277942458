use Rattle.std.proofs.Common.{◌≤◌, arith}
use Rattle.tact_base.specs.Covers.{least_stamp}
use Rattle.tact_base.proofs.CoversLemmas.{least_stamp-raised}
use Rattle.replica_core.proofs.replica.Replica.close.Goals as goal

pub commit_to-requires : goal.commit_to-requires
commit_to-requires c =
    let places = c.self.invariant.0.places in
    let rises : least_stamp c.self.inside.vector ≤ least_stamp c.raise.new.self =
    rw c.raise.ensures (least_stamp-raised c.self.inside.vector c.self.inside.replica _ _ (omega (arith, places.among, places.covers_sized))) in
    omega (arith, rises, c.self.invariant.0.between.committed, c.least.ensures)
