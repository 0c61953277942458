use Rattle.std.proofs.Common.{◌≤◌, ◌+◌, ◌↔◌, drop}
use Rattle.run_model.proofs.OriginWrites.{CountsUp}
use Rattle.run_model.proofs.ranges.told.have_indices_from.Given as goal

-- all of them count up exactly where those that are left count on
abbrev pub invariant-loop-write : goal.invariant-loop-write
invariant-loop-write l = record {
  few : l.told ≤ l.write-index;
  same : CountsUp l.origin l.first l.writes ↔ CountsUp l.origin (l.first + l.told) (drop l.write-index l.writes);
}
