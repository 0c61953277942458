use Rattle.tact_base.proofs.CompareLemmas.{write_total}
use Rattle.tact_base.proofs.laws.order_is_total.Goals as goal

pub returns-clause-total : goal.returns-clause-total
returns-clause-total c = write_total
