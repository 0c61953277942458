use Rattle.run_work.proofs.TendingLoop.{IsSending}
use Rattle.run_work.proofs.worker.Worker.send_due.Given as goal

abbrev pub invariant-loop-to : goal.invariant-loop-to
invariant-loop-to g l = IsSending l.fn.self l.to l.self
