use Rattle.replica_core.proofs.ToldNumbers.{IsLearned}
use Rattle.replica_core.proofs.replica.taking.learn_haves.Given as goal

abbrev pub invariant-loop-origin : goal.invariant-loop-origin
invariant-loop-origin l = IsLearned l.config.replicas l.config.replicas l.message.from l.message.haves l.fn.known.items l.origin l.known.items
