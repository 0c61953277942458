use Rattle.run_work.proofs.leading.take_for.Goals as goal

pub returns-in-Err-clause-stop : goal.returns-in-Err-clause-stop
returns-in-Err-clause-stop g c = c.stop.ensures.stop _ (c.in-Err.ensures.ending.cause, c.in-Err.ensures.kept)
