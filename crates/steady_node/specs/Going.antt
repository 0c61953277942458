-- How a session goes on, through faults of its node's journal.
use Rattle.std.specs.Prelude.{◌≡◌, ℕ, ◌+◌, ◌-◌, ◌≤◌, length}
use Rattle.tact_base.specs.declared.limits.TheConstants.{HISTORY_MAX}
use Rattle.run_model.specs.Histories.{IsPrefix, part_of}
use Rattle.replica_lock.specs.Sessions.{SessionView}

-- a session was never told that its node's journal failed, nor that the node is halted
abbrev pub IsUnmarked : SessionView → Type 0
IsUnmarked session = (session.faults ≡ 0) × (session.halts ≡ 0)

-- A session has gone on: it has seen more, and its marks didn't fall. While it is unmarked at most so many entries were
-- made for its client.
pub record GoesOn (most : ℕ) (before after : SessionView) : Type 0 where
  pub value : after ≡ record before {
    calls = after.calls;
    made = after.made;
    faults = after.faults;
    halts = after.halts;
    doubt = after.doubt;
    seen = after.seen;
  }
  pub told : IsPrefix before.seen after.seen
  pub faults : before.faults ≤ after.faults
  pub halts : before.halts ≤ after.halts
  pub few : IsUnmarked after → after.made ≤ before.made + most

-- how many entries its replica can still make, by what a session has seen
abbrev pub entries_left : SessionView → ℕ
entries_left session = HISTORY_MAX - length (part_of session.seen session.replica)
