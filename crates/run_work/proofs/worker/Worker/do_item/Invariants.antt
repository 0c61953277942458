use Rattle.run_work.proofs.TryingLoop.{IsTrying}
use Rattle.run_work.proofs.worker.Worker.do_item.Given as goal

abbrev pub invariant-loop-tried : goal.invariant-loop-tried
invariant-loop-tried g l = IsTrying l.item l.fn.self l._tried l.self
