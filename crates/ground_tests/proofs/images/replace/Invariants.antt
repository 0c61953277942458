use Rattle.std.proofs.Common.{◌≡◌, ◌++◌, take}
use Rattle.tact_base.specs.Images.{ops_of}
use Rattle.ground_tests.proofs.images.replace.Given as goal

abbrev pub invariant-loop-write : goal.invariant-loop-write
invariant-loop-write g l = l.ops.items ≡ take l.place l.fn.ops.items ++ ops_of (take l.write-index l.writes)
