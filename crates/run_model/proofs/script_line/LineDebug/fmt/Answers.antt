use Rattle.run_model.proofs.script_line.LineDebug.fmt.Goals as goal

pub returns-in-Start : goal.returns-in-Start
returns-in-Start w c = record { writes = tt }

pub returns-in-Bound : goal.returns-in-Bound
returns-in-Bound w c = record { writes = tt }

pub returns-in-At : goal.returns-in-At
returns-in-At w c = record { writes = tt }

pub returns-in-Write : goal.returns-in-Write
returns-in-Write w c = record { writes = tt }

pub returns-in-Held : goal.returns-in-Held
returns-in-Held w c = record { writes = tt }

pub returns-in-Reserve : goal.returns-in-Reserve
returns-in-Reserve w c = record { writes = tt }

pub returns-in-Release : goal.returns-in-Release
returns-in-Release w c = record { writes = tt }

pub returns-in-Read : goal.returns-in-Read
returns-in-Read w c = record { writes = tt }

pub returns-in-Send : goal.returns-in-Send
returns-in-Send w c = record { writes = tt }

pub returns-in-Take : goal.returns-in-Take
returns-in-Take w c = record { writes = tt }

pub returns-in-Sync : goal.returns-in-Sync
returns-in-Sync w c = record { writes = tt }

pub returns-in-Lend : goal.returns-in-Lend
returns-in-Lend w c = record { writes = tt }

pub returns-in-Back : goal.returns-in-Back
returns-in-Back w c = record { writes = tt }

pub returns-in-Restart : goal.returns-in-Restart
returns-in-Restart w c = record { writes = tt }

pub returns-in-Show : goal.returns-in-Show
returns-in-Show w c = record { writes = tt }

pub returns-in-Ref : goal.returns-in-Ref
returns-in-Ref w c = record { writes = tt }
