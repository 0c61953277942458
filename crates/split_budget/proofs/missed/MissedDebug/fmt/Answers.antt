use Rattle.split_budget.proofs.missed.MissedDebug.fmt.Goals as goal

pub returns : goal.returns
returns w c = record { writes = tt }
