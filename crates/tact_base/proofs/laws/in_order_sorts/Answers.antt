use Rattle.tact_base.proofs.OrderLemmas.{IsPermutation-in_order, IsSorted-in_order}
use Rattle.tact_base.proofs.laws.in_order_sorts.Goals as goal

pub returns-clause-sorted : goal.returns-clause-sorted
returns-clause-sorted c = IsSorted-in_order

pub returns-clause-same : goal.returns-clause-same
returns-clause-same c = IsPermutation-in_order
