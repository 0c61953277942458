use Rattle.std.proofs.Common.{◌≡◌, map}
use Rattle.std.specs.List.{range_with_len}
use Rattle.primary_commit.specs.Peers.{have}
use Rattle.primary_commit.proofs.peer.Peer.haves.Given as goal

abbrev pub invariant-loop-origin : goal.invariant-loop-origin
invariant-loop-origin l = l.haves ≡ map (have l.self) (range_with_len 0 l.origin)
