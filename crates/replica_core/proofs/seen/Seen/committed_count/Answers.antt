use Rattle.std.proofs.Common.{length, ap, arith}
use Rattle.std.proofs.lemmas.List.{length-drop}
use Rattle.tact_base.proofs.CommitLemmas.{length-committed_tentative}
use Rattle.tact_base.specs.WriteOrder.{committed_to}
use Rattle.replica_core.proofs.seen.Seen.committed_count.Goals as goal

pub overflow_add-result : goal.overflow_add-result
overflow_add-result c =
    let old = c.self.inside.ordered in
    omega (
      arith,
      c.dropped.ensures.dropped,
      c.dropped.ensures.within,
      ap length c.committed.ensures.committed,
      length-drop old.dropped (committed_to old.point old.writes),
      length-committed_tentative old.point old.writes,
      c.self.invariant.few,
    )
