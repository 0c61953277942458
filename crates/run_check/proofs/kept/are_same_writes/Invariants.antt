use Rattle.std.proofs.Common.{◌≡◌, take}
use Rattle.run_check.proofs.kept.are_same_writes.Given as goal

abbrev pub invariant-loop-place : goal.invariant-loop-place
invariant-loop-place l = take l.place l.ones ≡ take l.place l.others
