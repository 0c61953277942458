use Rattle.std.proofs.Common.{◌≡◌, [], All, map, take}
use Rattle.run_work.specs.Ends.{AreEnds}
use Rattle.run_work.specs.Working.{IsFresh, WorkerView}
use Rattle.run_work.proofs.seat.seat_all.Given as goal

abbrev pub invariant-loop-client : goal.invariant-loop-client
invariant-loop-client g l = record {
  ends : AreEnds (take l.client-index l.clients) [] [] l.sites l.ends;
  clients : map (λ (worker : WorkerView). worker.client) l.workers.items ≡ take l.client-index l.clients;
  fresh : All (IsFresh l.sites) l.workers.items;
}
