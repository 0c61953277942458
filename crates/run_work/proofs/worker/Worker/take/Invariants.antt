use Rattle.postbox.specs.Posts.{IsFor}
use Rattle.steady_node.specs.Going.{entries_left}
use Rattle.run_work.proofs.TendingLoop.{IsTending}
use Rattle.run_work.proofs.worker.Worker.take.Given as goal

abbrev pub invariant-loop-due : goal.invariant-loop-due
invariant-loop-due g l = IsTending l.fn.self 0 l.self × IsFor l.fn.self.node.desk.table l.fn.self.node.replica l.parcel

abbrev pub decreases-loop-due : goal.decreases-loop-due
decreases-loop-due g l = entries_left l.self.session
