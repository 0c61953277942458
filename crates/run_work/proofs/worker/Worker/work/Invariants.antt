use Rattle.run_work.proofs.WorkingLoop.{IsWorking}
use Rattle.run_work.proofs.worker.Worker.work.Given as goal

abbrev pub invariant-loop-item : goal.invariant-loop-item
invariant-loop-item g l = IsWorking l.tries l.fn.self l.item-index l.self
