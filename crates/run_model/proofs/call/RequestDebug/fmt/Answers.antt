use Rattle.run_model.proofs.call.RequestDebug.fmt.Goals as goal

pub returns-in-Write : goal.returns-in-Write
returns-in-Write w c = record { writes = tt }

pub returns-in-Held : goal.returns-in-Held
returns-in-Held w c = record { writes = tt }

pub returns-in-Reserve : goal.returns-in-Reserve
returns-in-Reserve w c = record { writes = tt }

pub returns-in-Release : goal.returns-in-Release
returns-in-Release w c = record { writes = tt }

pub returns-in-Read : goal.returns-in-Read
returns-in-Read w c = record { writes = tt }
