use Rattle.std.proofs.Common.{◌≡◌, ℕ, ◌<◌, ◌≤◌}
use Rattle.write_log.specs.Logs.{room_of}
use Rattle.replica_core.proofs.replica.taking.reserve_each.Given as goal

abbrev pub invariant-loop-origin : goal.invariant-loop-origin
invariant-loop-origin l = record {
  logs : l.logs.logs ≡ l.fn.logs.logs;
  bases : l.logs.bases ≡ l.fn.logs.bases;
  kept : (origin : ℕ) → room_of l.fn.logs origin ≤ room_of l.logs origin;
  room : (origin : ℕ) → origin < l.origin → l.count ≤ room_of l.logs origin;
}
