use Rattle.run_check.proofs.AtReplica.{is_memory, message_fits}
use Rattle.run_check.proofs.Passing.{take_passes}
use Rattle.run_check.proofs.judging.take_sent.Goals as goal

pub take-requires-clause-fits : goal.take-requires-clause-fits
take-requires-clause-fits g c =
    message_fits g.history c.args.set.now c.requires.0 c.args.from c.args.number c.args.message.now c.requires.1.1.1 c.args.at.replica c.if-message-at.false

pub want_of_memory-requires : goal.want_of_memory-requires
want_of_memory-requires g c =
    is_memory g.history c.args.set.now c.requires.0 c.args.at c.requires.1.1.0.replica c.requires.1.0 c.in-Err.fault c.in-Err.ensures.fault

pub returns-in-Ok-clause-ok : goal.returns-in-Ok-clause-ok
returns-in-Ok-clause-ok g c =
    take_passes g.history c.args.set.now c.requires.0 c.args.at c.requires.1.1.0.replica c.requires.1.0 c.take.new.self c.in-Ok.ensures.setup
    c.args.from c.args.number c.args.message.now c.requires.1.1.1 (c.in-Ok.ensures.goes_on g.history c.requires.0.stands)
