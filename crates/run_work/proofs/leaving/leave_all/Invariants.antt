use Rattle.std.proofs.Common.{◌≡◌, ◌++◌}
use Rattle.run_work.proofs.LeaveLoop.{IsLeaving, clients_of}
use Rattle.run_work.proofs.leaving.leave_all.Given as goal

abbrev pub invariant-loop-worker : goal.invariant-loop-worker
invariant-loop-worker g l = record {
  all : l.yielded ++ l.worker-iterator.rest.items ≡ l.fn.workers.items;
  leaving : IsLeaving g.J.Journal.tells l.sites l.tries (clients_of l.fn.workers.items) l.yielded l.left l.fn.ends l.ends;
}
