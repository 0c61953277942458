use Rattle.std.proofs.Common.{◌≡◌, ◌++◌, refl, arith}
use Rattle.tact_base.specs.WriteOrder.{in_order}
use Rattle.ground_tests.proofs.Triples.{below_next}
use Rattle.ground_tests.proofs.orders.batches_go_in_one_by_one.Goals as goal

pub loop-index-preserved : goal.loop-index-preserved
loop-index-preserved g c =
    let held = c.loop-index.ordered.writes in
    let writes = c.batch-writes.result in
    let now : c.commit_to.new.self.writes ≡ in_order (held ++ writes) =
    rw (c.commit_to.ensures.writes, c.insert_all.ensures.in_order, c.reserve.ensures.writes) refl in
    record {
      held = rw now (below_next writes held c.loop-index.index c.batch-writes.ensures.alike c.loop-index.invariant.held);
      point = c.commit_to.ensures.point;
      low = omega arith;
    }
