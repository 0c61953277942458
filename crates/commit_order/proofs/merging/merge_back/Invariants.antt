use Rattle.std.proofs.Common.{◌≡◌, ◌+◌, ◌≤◌, ◌++◌, length, take, drop}
use Rattle.commit_order.specs.Batches.{with_writes}
use Rattle.commit_order.proofs.merging.merge_back.Given as goal

-- what is left of both, merged, stands before what is in its place; and of those held the ones that are left haven't
-- moved
abbrev pub invariant-loop-more : goal.invariant-loop-more
invariant-loop-more l = record {
  left : l.left ≤ l.fn.held;
  more : l.more ≤ length l.writes;
  places : length l.items ≡ l.fn.held + length l.writes;
  stay : take l.left l.items ≡ take l.left (take l.fn.held l.fn.items);
  merged : with_writes (take l.more l.writes) (take l.left l.items) ++ drop (l.left + l.more) l.items ≡ with_writes l.writes (take l.fn.held l.fn.items);
}

abbrev pub decreases-loop-more : goal.decreases-loop-more
decreases-loop-more l = l.more
