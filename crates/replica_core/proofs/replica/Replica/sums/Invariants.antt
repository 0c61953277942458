use Rattle.std.proofs.Common.{◌≡◌, ℕ, pos, ◌<◌, length, get_or}
use Rattle.tact_base.specs.Sums.{net_sum}
use Rattle.tact_base.specs.declared.conit_list.Need.{Need}
use Rattle.replica_core.proofs.replica.Replica.sums.Given as goal

abbrev pub invariant-loop-place : goal.invariant-loop-place
invariant-loop-place l = record {
  sized : length l.sums ≡ 4;
  filled : (k : ℕ) (d : Need) → k < l.place → get_or l.sums k (pos 0) ≡ net_sum l.self.core.writes.seen (get_or l.needs k d).conit;
}
