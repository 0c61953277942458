use Rattle.run_model.proofs.call.ReplyDebug.fmt.Goals as goal

pub returns-in-Done : goal.returns-in-Done
returns-in-Done w c = record { writes = tt }

pub returns-in-Value : goal.returns-in-Value
returns-in-Value w c = record { writes = tt }

pub returns-in-TooHeavy : goal.returns-in-TooHeavy
returns-in-TooHeavy w c = record { writes = tt }

pub returns-in-WaitHeld : goal.returns-in-WaitHeld
returns-in-WaitHeld w c = record { writes = tt }

pub returns-in-WaitShare : goal.returns-in-WaitShare
returns-in-WaitShare w c = record { writes = tt }

pub returns-in-WaitLent : goal.returns-in-WaitLent
returns-in-WaitLent w c = record { writes = tt }

pub returns-in-WaitOrder : goal.returns-in-WaitOrder
returns-in-WaitOrder w c = record { writes = tt }

pub returns-in-WaitStale : goal.returns-in-WaitStale
returns-in-WaitStale w c = record { writes = tt }

pub returns-in-NotHeld : goal.returns-in-NotHeld
returns-in-NotHeld w c = record { writes = tt }

pub returns : goal.returns
returns w c = record { writes = tt }
