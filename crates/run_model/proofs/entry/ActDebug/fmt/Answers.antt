use Rattle.run_model.proofs.entry.ActDebug.fmt.Goals as goal

pub returns-in-Call : goal.returns-in-Call
returns-in-Call w c = record { writes = tt }

pub returns-in-Send : goal.returns-in-Send
returns-in-Send w c = record { writes = tt }

pub returns-in-Take : goal.returns-in-Take
returns-in-Take w c = record { writes = tt }

pub returns-in-Lend : goal.returns-in-Lend
returns-in-Lend w c = record { writes = tt }

pub returns-in-Back : goal.returns-in-Back
returns-in-Back w c = record { writes = tt }

pub returns : goal.returns
returns w c = record { writes = tt }
