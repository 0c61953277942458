use Rattle.run_history.proofs.Enrolling.{begins}
use Rattle.run_history.proofs.desk.Desk.new.Goals as goal

pub of_words-requires : goal.of_words-requires
of_words-requires c = begins c.args.config.now c.replicas-replicas.ensures.sound
