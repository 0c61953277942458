use Rattle.run_model.proofs.status.StatusDebug.fmt.Goals as goal

pub returns-in-Bad : goal.returns-in-Bad
returns-in-Bad w c = record { writes = tt }

pub returns-in-Usage : goal.returns-in-Usage
returns-in-Usage w c = record { writes = tt }

pub returns-in-BadInput : goal.returns-in-BadInput
returns-in-BadInput w c = record { writes = tt }

pub returns-in-Full : goal.returns-in-Full
returns-in-Full w c = record { writes = tt }

pub returns : goal.returns
returns w c = record { writes = tt }
