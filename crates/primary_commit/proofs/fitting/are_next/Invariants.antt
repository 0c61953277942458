use Rattle.std.proofs.Common.{take}
use Rattle.primary_commit.proofs.fitting.are_next.Given as goal
use Rattle.primary_commit.specs.Peers.{AreNext}

abbrev pub invariant-loop-place : goal.invariant-loop-place
invariant-loop-place l = AreNext l.firsts (take l.place l.items)
