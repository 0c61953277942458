use Rattle.std.proofs.Common.{◌≡◌, length}
use Rattle.run_work.proofs.merge.stand_ins.Given as goal

abbrev pub invariant-loop-tick : goal.invariant-loop-tick
invariant-loop-tick l = length l.made.items ≡ l._tick
