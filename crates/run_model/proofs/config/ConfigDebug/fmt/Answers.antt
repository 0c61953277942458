use Rattle.run_model.proofs.config.ConfigDebug.fmt.Goals as goal

pub returns : goal.returns
returns w c = record { writes = tt }
