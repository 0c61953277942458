use Rattle.split_budget.proofs.budgets.BudgetsDebug.fmt.Goals as goal

pub returns : goal.returns
returns w c = record { writes = tt }
