use Rattle.std.proofs.Common.{◌≡◌, ◌+◌, List, ◌++◌, take, length}
use Rattle.tact_base.specs.declared.conit_list.Weight.{Weight}
use Rattle.conit_sums.specs.ConitSums.{AreSumsOf}
use Rattle.replica_core.specs.Seen.{weights_of}
use Rattle.replica_core.proofs.seen.settle_all.Given as goal

abbrev pub invariant-loop-write : goal.invariant-loop-write
invariant-loop-write l = record {
  conits : length l.settled.sums ≡ length l.initial.settled.sums;
  held : l.settled.held ≡ l.initial.settled.held + l.write-index;
  added : (held : List (List Weight)) → AreSumsOf l.initial.settled held → AreSumsOf l.settled (held ++ weights_of (take l.write-index l.writes));
}
