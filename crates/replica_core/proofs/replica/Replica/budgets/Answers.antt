use Rattle.std.proofs.Common.{refl}
use Rattle.replica_core.proofs.Loans.{GivesPart_told}
use Rattle.replica_core.proofs.replica.Replica.budgets.Goals as goal

pub returns-clause-of_part : goal.returns-clause-of_part
returns-clause-of_part c = rw (← c.self.view_is) (λ part stands. GivesPart_told _ c.self.inside.budgets part c.self.invariant.0.budgets refl stands)
