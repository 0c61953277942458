use Rattle.std.proofs.Common.{ℕ, ◌<◌}
use Rattle.run_model.specs.Ranges.{IsToldInRange}
use Rattle.run_model.proofs.ranges.told.is_all_told_in_range.Given as goal

abbrev pub invariant-loop-origin : goal.invariant-loop-origin
invariant-loop-origin l = (origin : ℕ) → origin < l.origin → IsToldInRange l.message origin
