use Rattle.std.proofs.Common.{◌≡◌, ◌+◌, take}
use Rattle.replica_core.specs.Taking.{with_next}
use Rattle.replica_core.proofs.replica.Replica.add_next.Given as goal

abbrev pub invariant-loop-write : goal.invariant-loop-write
invariant-loop-write l = record {
  core : l.self.core ≡ with_next l.fn.self.core l.origin (take l.write-index l.writes) l.self.core.writes.seen;
  spare : l.self.spare ≡ l.fn.self.spare;
  room : l.fn.self.beside ≡ l.self.beside + l.write-index;
}
