use Rattle.tact_base.proofs.OrderLemmas.{in_order_moved}
use Rattle.tact_base.proofs.laws.in_order_forgets_arrival.Goals as goal

pub returns : goal.returns
returns c = in_order_moved
