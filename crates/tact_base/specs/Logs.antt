-- The log of an origin's writes at a replica, as anti-entropy extends it.
use Rattle.std.specs.Prelude.{ℕ, ◌-◌, nat_le, List, ◌++◌, length, drop, if◌then◌else◌}

-- A log after told writes of its origin, which begin at the index `first`: those that it lacks are added,
-- unless they begin past its end, which would leave a gap.
abbrev pub log_after : {T : Type 0} → List T → ℕ → List T → List T
log_after log first told = if nat_le first (length log) then log ++ drop (length log - first) told else log
