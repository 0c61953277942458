use Rattle.std.proofs.Common.{◌≡◌, ℕ, ◌<◌, length, get_or}
use Rattle.replica_core.specs.States.{log_at}
use Rattle.replica_core.proofs.replica.Replica.put_haves.Given as goal

abbrev pub invariant-loop-origin : goal.invariant-loop-origin
invariant-loop-origin l = record {
  sized : length l.row ≡ 8;
  filled : (at : ℕ) → at < l.origin → get_or l.row at 0 ≡ length (log_at l.self.core at);
}
