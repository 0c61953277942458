use Rattle.std.proofs.Common.{◌≡◌, ◌++◌}
use Rattle.std.specs.List.{flat_map, range_with_len}
use Rattle.primary_commit.specs.Networks.{network_after, peer_at}
use Rattle.tact_top.specs.PrimaryText.{peer_text}
use Rattle.tact_top.proofs.ordering.put_peers.Given as goal

abbrev pub invariant-loop-replica : goal.invariant-loop-replica
invariant-loop-replica l =
    l.out ≡ l.initial.out ++ flat_map (λ replica. peer_text (peer_at (network_after 4 l.primary.events) replica) replica) (range_with_len 0 l.replica)
