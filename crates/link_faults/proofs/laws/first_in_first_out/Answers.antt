use Rattle.link_faults.proofs.InOrder.{in_order}
use Rattle.link_faults.proofs.laws.first_in_first_out.Goals as goal

pub returns-clause-in_order : goal.returns-clause-in_order
returns-clause-in_order g c = in_order
