use Rattle.split_budget.proofs.own_writes.OwnWritesDebug.fmt.Goals as goal

pub returns : goal.returns
returns w c = record { writes = tt }
