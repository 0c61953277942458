use Rattle.std.proofs.Common.{◌≡◌, ℕ, ◌+◌, ◌<◌, ◌≤◌, length, flat_map}
use Rattle.std.specs.List.{range_with_len}
use Rattle.run_model.specs.Taking.{told_writes}
use Rattle.replica_core.specs.States.{log_at}
use Rattle.replica_core.specs.Taking.{log_told}
use Rattle.replica_core.proofs.replica.Replica.add_told.Given as goal

abbrev pub invariant-loop-origin : goal.invariant-loop-origin
invariant-loop-origin l = record {
  core : l.self.core ≡ record l.fn.self.core { writes = record l.fn.self.core.writes { logs = l.self.core.writes.logs; seen = l.self.core.writes.seen } };
  sized : length l.self.core.writes.logs ≡ l.fn.self.core.setup.replicas;
  told : (origin : ℕ) → origin < l.origin → origin < l.fn.self.core.setup.replicas → log_at l.self.core origin ≡ log_told l.fn.self.core l.message origin;
  later : (origin : ℕ) → l.origin ≤ origin → log_at l.self.core origin ≡ log_at l.fn.self.core origin;
  start : l.start ≡ length (flat_map (told_writes l.message) (range_with_len 0 l.origin));
  spare : l.self.spare ≡ l.fn.self.spare;
  room : l.fn.self.beside ≤ l.self.beside + l.start;
}
