use Rattle.std.proofs.Common.{◌≤◌, ◌<◌, ℕ, get_or}
use Rattle.tact_base.specs.Covers.{least_stamp}
use Rattle.tact_base.specs.declared.write.Cover.{Cover}
use Rattle.version_vector.proofs.Vector.least.Given as goal

-- no less than the least stamp, and no more than those so far
abbrev pub invariant-loop-cover : goal.invariant-loop-cover
invariant-loop-cover l =
    (least_stamp l.self ≤ l.least) × ((k : ℕ) (d : Cover) → k < l.cover-index → l.least ≤ (get_or l.self k d).stamp)
