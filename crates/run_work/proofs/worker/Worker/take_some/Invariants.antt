use Rattle.run_work.proofs.TendingLoop.{IsTending}
use Rattle.run_work.proofs.worker.Worker.take_some.Given as goal

abbrev pub invariant-loop-taken : goal.invariant-loop-taken
invariant-loop-taken g l = IsTending l.fn.self l._taken l.self
