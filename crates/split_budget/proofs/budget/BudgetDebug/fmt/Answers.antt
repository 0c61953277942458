use Rattle.split_budget.proofs.budget.BudgetDebug.fmt.Goals as goal

pub returns : goal.returns
returns w c = record { writes = tt }
