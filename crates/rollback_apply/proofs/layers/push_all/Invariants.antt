use Rattle.std.proofs.Common.{◌≡◌, ◌+◌, ◌≤◌, ◌++◌, vec_len, length, take}
use Rattle.std.specs.Vec.{vec_capacity}
use Rattle.tact_base.specs.Images.{ops_of}
use Rattle.rollback_apply.specs.Layers.{ops_in}
use Rattle.rollback_apply.proofs.layers.push_all.Given as goal

abbrev pub invariant-loop-write : goal.invariant-loop-write
invariant-loop-write l = record {
  front : take (length l.initial.layers.items) l.layers.items ≡ l.initial.layers.items;
  ops : ops_in l.layers.items ≡ ops_in l.initial.layers.items ++ ops_of (take l.write-index l.writes);
  count : vec_len l.layers ≡ vec_len l.initial.layers + l.write-index;
  capacity : vec_capacity l.initial.layers ≤ vec_capacity l.layers;
}
