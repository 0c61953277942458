use Rattle.std.proofs.Common.{◌≡◌, map}
use Rattle.std.specs.List.{range_with_len}
use Rattle.primary_commit.specs.Peers.{fresh_peer}
use Rattle.primary_commit.proofs.primary.Primary.new.Given as goal

abbrev pub invariant-loop-replica : goal.invariant-loop-replica
invariant-loop-replica l = l.peers.items ≡ map (fresh_peer l.n) (range_with_len 0 l.replica)
