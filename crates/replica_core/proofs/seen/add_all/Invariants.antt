use Rattle.std.proofs.Common.{◌≡◌, ◌+◌, List, ◌++◌, take}
use Rattle.tact_base.specs.declared.conit_list.Weight.{Weight}
use Rattle.conit_weights.specs.Running.{HoldsAll, conits_of, held_of}
use Rattle.replica_core.specs.Seen.{weights_of}
use Rattle.replica_core.proofs.seen.add_all.Given as goal

abbrev pub invariant-loop-write : goal.invariant-loop-write
invariant-loop-write l = record {
  conits : conits_of l.sums ≡ conits_of l.initial.sums;
  held : held_of l.sums ≡ held_of l.initial.sums + l.write-index;
  added : (held : List (List Weight)) → HoldsAll l.initial.sums held → HoldsAll l.sums (held ++ weights_of (take l.write-index l.writes));
}
