use Rattle.std.proofs.Common.{◌≡◌, vec_len}
use Rattle.ground_tests.proofs.images.late_operations_and_batches_fold_as_in_order.Given as goal

abbrev pub invariant-loop : goal.invariant-loop
invariant-loop g l = (l.image.committed ≡ vec_len l.early) × (l.image.ops ≡ l.late.items)
