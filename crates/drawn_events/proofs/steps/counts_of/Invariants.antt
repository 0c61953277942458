use Rattle.std.proofs.Common.{◌≡◌, map}
use Rattle.std.specs.List.{range_with_len}
use Rattle.primary_commit.specs.Peers.{have}
use Rattle.drawn_events.proofs.steps.counts_of.Given as goal

abbrev pub invariant-loop-origin : goal.invariant-loop-origin
invariant-loop-origin l = l.counts ≡ map (have l.peer) (range_with_len 0 l.origin)
