-- The logs of writes at a replica, one by origin, of which the first writes may be given up, and what told writes do to
-- them.
use Rattle.std.specs.Prelude.{◌≡◌, ℕ, ◌+◌, ◌-◌, ◌<◌, ◌≤◌, List, [], ◌++◌, drop, length, slice_index, slice_index_or, slice_set}
use Rattle.tact_base.specs.declared.write.Write.{Write}
use Rattle.write_log.specs.declared.taken.Taken.{Taken}
use Rattle.write_log.specs.declared.taken.Taken.TheVariants.{Added, Gap}

-- By origin: its whole log, how many of its first writes were given up, and how many more can surely be held without
-- taking memory.
pub record LogState : Type 0 where
  pub logs : List (List Write)
  pub bases : List ℕ
  pub room : List ℕ

-- the log of an origin, with what was given up
abbrev pub log_of : LogState → ℕ → List Write
log_of state origin = slice_index_or state.logs origin []

-- how many of its first writes were given up
abbrev pub base_of : LogState → ℕ → ℕ
base_of state origin = slice_index state.bases origin

-- the room of an origin
abbrev pub room_of : LogState → ℕ → ℕ
room_of state origin = slice_index state.room origin

-- What is answered to told writes of an origin, which begin at the index `first`, and what becomes of the logs: those
-- past the end of its log are added, and writes that begin past that leave a gap and change nothing.
abbrev pub TakesWrites : LogState → LogState → ℕ → ℕ → List Write → Taken → Type 0
TakesWrites old new origin first told (Added count) =
    (first ≤ length (log_of old origin)) × (count ≡ length told - (length (log_of old origin) - first))
    × (new.logs ≡ slice_set old.logs origin (log_of old origin ++ drop (length (log_of old origin) - first) told))
    × (new.bases ≡ old.bases)
    × (room_of old origin ≤ room_of new origin + count)
TakesWrites old new origin first told (Gap have at) =
    (length (log_of old origin) < first) × (have ≡ length (log_of old origin)) × (at ≡ first) × (new ≡ old)
