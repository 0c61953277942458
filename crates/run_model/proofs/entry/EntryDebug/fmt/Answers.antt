use Rattle.run_model.proofs.entry.EntryDebug.fmt.Goals as goal

pub returns : goal.returns
returns w c = record { writes = tt }
