use Rattle.std.specs.List.Sorted.{IsStrictlySortedBy}
use Rattle.commit_order.proofs.ordered.Ordered.insert.Goals as goal

pub insert_all-requires-clause-sorted : goal.insert_all-requires-clause-sorted
unfolding IsStrictlySortedBy
insert_all-requires-clause-sorted c = rw c.from_ref.ensures.value (tt, tt)
