use Rattle.std.proofs.Common.{ℕ, ◌<◌, ◌≤◌, slice_index}
use Rattle.split_budget.specs.Budgets.{lent_to}
use Rattle.replica_core.proofs.replica.Replica.are_returns_lent.Given as goal

abbrev pub invariant-loop-conit : goal.invariant-loop-conit
invariant-loop-conit l =
    (conit : ℕ) → conit < l.conit → slice_index l.message.returned conit ≤ lent_to l.self.core.budgets l.message.from conit
