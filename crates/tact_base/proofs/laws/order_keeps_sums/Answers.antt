use Rattle.tact_base.proofs.OrderSums.{plus_sum-in_order, minus_sum-in_order, net_sum-in_order, order_sum-in_order}
use Rattle.tact_base.proofs.laws.order_keeps_sums.Goals as goal

pub returns-clause-plus : goal.returns-clause-plus
returns-clause-plus c = plus_sum-in_order

pub returns-clause-minus : goal.returns-clause-minus
returns-clause-minus c = minus_sum-in_order

pub returns-clause-net : goal.returns-clause-net
returns-clause-net c = net_sum-in_order

pub returns-clause-order : goal.returns-clause-order
returns-clause-order c = order_sum-in_order
