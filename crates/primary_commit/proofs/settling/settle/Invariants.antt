use Rattle.std.proofs.Common.{◌+◌, ◌≤◌, length}
use Rattle.primary_commit.specs.Kept.{peer_with, IsSettled}
use Rattle.primary_commit.proofs.settling.settle.Given as goal

abbrev pub invariant-loop-place : goal.invariant-loop-place
invariant-loop-place l = record {
  settled : IsSettled (peer_with l.logs.logs l.told) l.place l.image;
  room : length l.told ≤ l.place + l.image.room;
}
