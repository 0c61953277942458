use Rattle.run_check.proofs.AtReplica.{is_memory}
use Rattle.run_check.proofs.Passing.{restart_passes}
use Rattle.run_check.proofs.judging.judge_restart.Goals as goal

pub want_of_memory-requires : goal.want_of_memory-requires
want_of_memory-requires g c =
    is_memory g.history c.args.set.now c.requires.0 c.args.at c.requires.1.1.replica c.requires.1.0 c.in-Err.fault
    (λ core here. (c.in-Err.ensures.fault core here).1)

pub returns-in-Ok-clause-ok : goal.returns-in-Ok-clause-ok
returns-in-Ok-clause-ok g c =
    restart_passes g.history c.args.set.now c.requires.0 c.args.at c.requires.1.1.replica c.requires.1.0 c.restart.new.self c.in-Ok.ensures.setup
    (c.in-Ok.ensures.goes_on g.history c.requires.0.stands)
