use Rattle.std.proofs.Common.{◌≡◌, ◌∷◌, take}
use Rattle.tact_base.specs.Images.{ops_of}
use Rattle.ground_tests.proofs.images.with_two.Given as goal

abbrev pub invariant-loop-op : goal.invariant-loop-op
invariant-loop-op g l = ops_of l.writes.items ≡ l.fn.first.op ∷ take l.op-index l.ops
