use Rattle.run_model.proofs.fields.FieldFaultDebug.fmt.Goals as goal

pub returns-in-BadField : goal.returns-in-BadField
returns-in-BadField w c = record { writes = tt }

pub returns : goal.returns
returns w c = record { writes = tt }
