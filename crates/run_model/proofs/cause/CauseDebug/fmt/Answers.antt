use Rattle.run_model.proofs.cause.CauseDebug.fmt.Goals as goal

pub returns-in-Full : goal.returns-in-Full
returns-in-Full w c = record { writes = tt }

pub returns-in-Moment : goal.returns-in-Moment
returns-in-Moment w c = record { writes = tt }

pub returns-in-Number : goal.returns-in-Number
returns-in-Number w c = record { writes = tt }

pub returns-in-First : goal.returns-in-First
returns-in-First w c = record { writes = tt }

pub returns-in-NoSend : goal.returns-in-NoSend
returns-in-NoSend w c = record { writes = tt }

pub returns-in-NotAddressed : goal.returns-in-NotAddressed
returns-in-NotAddressed w c = record { writes = tt }

pub returns-in-Home : goal.returns-in-Home
returns-in-Home w c = record { writes = tt }

pub returns-in-Free : goal.returns-in-Free
returns-in-Free w c = record { writes = tt }

pub returns-in-Reply : goal.returns-in-Reply
returns-in-Reply w c = record { writes = tt }
