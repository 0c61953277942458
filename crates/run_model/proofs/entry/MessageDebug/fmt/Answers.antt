use Rattle.run_model.proofs.entry.MessageDebug.fmt.Goals as goal

pub returns : goal.returns
returns w c = record { writes = tt }
