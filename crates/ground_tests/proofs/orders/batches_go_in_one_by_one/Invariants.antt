use Rattle.std.proofs.Common.{◌≡◌, ◌*◌, ◌<◌, ◌≤◌, All}
use Rattle.ground_tests.proofs.orders.batches_go_in_one_by_one.Given as goal

abbrev pub invariant-loop-index : goal.invariant-loop-index
invariant-loop-index g l = record {
  held : All (λ write. write.index < l.index) l.ordered.writes;
  point : l.ordered.point ≡ l.point;
  low : l.point ≤ 2 * l.index;
}
