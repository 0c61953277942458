use Rattle.std.proofs.Common.{◌≡◌}
use Rattle.split_budget.specs.Kept.{KeepsBudgets}
use Rattle.replica_core.proofs.ToldNumbers.{IsLearned}
use Rattle.replica_core.proofs.replica.taking.note_loans.Given as goal

abbrev pub invariant-loop-conit : goal.invariant-loop-conit
invariant-loop-conit l = record {
  same : l.budgets ≡ record l.fn.budgets { lent_known = l.budgets.lent_known; returned_known = l.budgets.returned_known };
  lent : IsLearned l.fn.budgets.setup.replicas l.fn.budgets.setup.conits l.message.from l.message.lent l.fn.budgets.lent_known l.conit l.budgets.lent_known;
  returned : IsLearned l.fn.budgets.setup.replicas l.fn.budgets.setup.conits l.message.from l.message.returned l.fn.budgets.returned_known l.conit l.budgets.returned_known;
  kept : KeepsBudgets l.budgets;
}
