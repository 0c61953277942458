use Rattle.run_model.proofs.status.InputKindDebug.fmt.Goals as goal

pub returns-in-Line : goal.returns-in-Line
returns-in-Line w c = record { writes = tt }

pub returns-in-Bytes : goal.returns-in-Bytes
returns-in-Bytes w c = record { writes = tt }

pub returns-in-Load : goal.returns-in-Load
returns-in-Load w c = record { writes = tt }
