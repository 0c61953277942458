-- What a node's lock keeps, and what an entry changes of it.
use Rattle.std.specs.Prelude.{◌≡◌, ℕ, ◌+◌, ◌*◌, ◌<◌, List, [], ◌∷◌, ◌++◌, drop, length, slice_index, slice_set, sum}
use Rattle.tact_base.specs.Setup.{Setup}
use Rattle.tact_base.specs.declared.limits.TheConstants.{CLIENTS}
use Rattle.run_model.specs.Histories.{part_of, calls_in, moment_at, IsPrefix}
use Rattle.run_model.specs.Missing.{reserved}
use Rattle.run_model.specs.Runs.{IsRun}
use Rattle.run_model.specs.declared.call.Request.{Request}
use Rattle.run_model.specs.declared.call.Request.TheVariants as request
use Rattle.run_model.specs.declared.entry.Act.{Act}
use Rattle.run_model.specs.declared.entry.Entry.{Entry}
use Rattle.run_history.specs.Seats.{ClerkView, DeskView}
use Rattle.run_history.specs.Ticks.{entries_of}
use Rattle.replica_core.specs.States.{Core}
use Rattle.replica_core.specs.Stands.{Stands}

-- What stands behind the lock: what the replica keeps, its clerk, the stored entries with their ticks, and the totals
-- by place: of the allowances out on each conit, of each client's turns, and of the entries made for each client. And
-- for how many more own writes, told writes of each other origin and stored entries there surely is room.
pub record LockedView : Type 0 where
  pub core : Core
  pub clerk : ClerkView
  pub stored : List (ℕ × Entry)
  pub totals : List ℕ
  pub spare : ℕ
  pub beside : ℕ
  pub room : ℕ

-- where the totals of a client's turns stand, and those of the entries made for it; those of allowances stand first,
-- by conit
abbrev pub turns_place : ℕ → ℕ → ℕ
turns_place conits client = conits + client

abbrev pub made_place : ℕ → ℕ → ℕ
made_place conits client = conits + CLIENTS + client

-- the replica's part: its stored entries
abbrev pub part_in : LockedView → List Entry
part_in locked = entries_of locked.stored

-- the entry of an act of the replica, at the moment that follows a handed one
abbrev pub entry_in : LockedView → ℕ → Act → Entry
entry_in locked moment done = record { replica = locked.core.replica; moment = moment_at (part_in locked) moment; act = done }

-- What the lock keeps, whenever the value behind it can be got: the replica stands for the stored entries; these are
-- the clerk's part, and all that it has seen of its replica; what is reserved on each conit is the total of the
-- allowances out; the calls of each client are its turns; and the entries are those made for all clients.
pub record IsLocked (locked : LockedView) : Type 0 where
  pub replica : locked.clerk.replica ≡ locked.core.replica
  pub stands : Stands (part_in locked) locked.core
  pub drawn : locked.clerk.pairs ≡ locked.stored
  pub own : part_of locked.clerk.seen locked.core.replica ≡ part_in locked
  pub places : length locked.totals ≡ locked.core.setup.conits + 2 * CLIENTS
  pub allowances : (conit : ℕ) → conit < locked.core.setup.conits → slice_index locked.totals conit ≡ reserved (part_in locked) conit
  pub turns : (client : ℕ) → client < CLIENTS
      → slice_index locked.totals (turns_place locked.core.setup.conits client) ≡ calls_in (part_in locked) client
  pub made : sum (drop (locked.core.setup.conits + CLIENTS) locked.totals) ≡ length locked.stored

-- A clerk drew an entry, which comes behind all that it had seen, and stands in its part at its place in the history.
pub record HasDrawn (setup : Setup) (before after : ClerkView) (entry : Entry) : Type 0 where
  pub table : after.table ≡ before.table
  pub replica : after.replica ≡ before.replica
  pub front : List Entry
  pub seen : after.seen ≡ front ++ entry ∷ []
  pub mine : IsPrefix before.seen front
  pub pairs : after.pairs ≡ before.pairs ++ (length front, entry) ∷ []
  pub run : IsRun setup after.seen
  pub own : part_of after.seen after.replica ≡ entries_of after.pairs

-- a total with one more at a place
abbrev pub one_more_at : ℕ → List ℕ → List ℕ
one_more_at place totals = slice_set totals place (slice_index totals place + 1)

-- The lock's value after one more entry, which comes behind all that was seen: by the clerk, and by a session. It is
-- drawn once, at its place in the history, and stored with it.
pub record HasEntered (before after : LockedView) (known : List Entry) (entry : Entry) : Type 0 where
  pub front : List Entry
  pub seen : after.clerk.seen ≡ front ++ entry ∷ []
  pub mine : IsPrefix before.clerk.seen front
  pub told : IsPrefix known front
  pub part : part_of front before.core.replica ≡ part_in before
  pub stored : after.stored ≡ before.stored ++ (length front, entry) ∷ []
  pub run : IsRun before.core.setup after.clerk.seen

-- the value is of a desk, and of the setup that this is made for
abbrev pub IsOfDesk : DeskView → LockedView → Type 0
IsOfDesk desk locked = (locked.clerk.table ≡ desk.table) × (locked.core.setup ≡ desk.setup)

-- a request that writes or reads, and has nothing to do with what is reserved
abbrev pub IsWriteOrRead : Request → Type 0
IsWriteOrRead (request.Write weights op) = Unit {0}
IsWriteOrRead (request.Read key needs) = Unit {0}
IsWriteOrRead other = ⊥
