use Rattle.std.proofs.Common.{◌≡◌, ◌≤◌, ◌==◌, filter, length, take}
use Rattle.primary_commit.proofs.fitting.count_of.Given as goal

abbrev pub invariant-loop-item : goal.invariant-loop-item
invariant-loop-item l = record {
  count : l.count ≡ length (filter (λ item. item.origin == l.origin) (take l.item-index l.items));
  few : l.count ≤ l.item-index;
}
