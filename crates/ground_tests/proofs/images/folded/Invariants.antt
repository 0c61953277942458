use Rattle.std.proofs.Common.{◌≡◌, length}
use Rattle.ground_tests.proofs.images.folded.Given as goal

abbrev pub invariant-loop-place : goal.invariant-loop-place
invariant-loop-place g l = (l.image.committed ≡ 0) × (length l.image.ops ≡ l.place)
