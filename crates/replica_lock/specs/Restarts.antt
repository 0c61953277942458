-- What a restart of a node leaves, and what a session has seen of it.
use Rattle.std.specs.Prelude.{◌≡◌, ◌≤◌, ◌⊎◌, ℕ, IsTrue, None, Option}
use Rattle.run_model.specs.declared.entry.Act.TheVariants as act
use Rattle.locked_replica.specs.Locks.{HasEntered, entry_in, made_place, one_more_at}
use Rattle.locked_replica.specs.Restarting.{HasJustStored, HasReread, HasRestartDoubt, IsRereadRefusal, IsRestartRefusal}
use Rattle.locked_replica.specs.declared.fault.NodeFault.TheVariants as node_fault
use Rattle.locked_replica.specs.declared.fault.RestartFault.{RestartFault}
use Rattle.locked_replica.specs.declared.fault.RestartFault.TheVariants as fault
use Rattle.locked_replica.specs.declared.restarting.Found.{Found}
use Rattle.replica_lock.specs.Ledgers.{found_owes, restart_book}
use Rattle.replica_lock.specs.Sessions.{IsFaultSeen, SessionView, TurnView}

-- After a replica was made again from its journal: the same entries are stored, or these and the one that was in doubt,
-- which is owed to its client then. Where the journal tells its pieces, they say which: they are those of just what is
-- stored then. Nothing is in doubt. The pieces stay, and the journal has counted no fewer faults.
pub record HasFound (before after : TurnView) : Type 0 where
  pub found : Option Found
  pub reread : HasReread before.state after.state before.journal.doubt found
  pub book : after.book ≡ before.book
  pub owes : after.owes ≡ found_owes found before.owes
  pub certain : after.journal.doubt ≡ None
  pub halted : after.journal.halted ≡ before.journal.halted
  pub told : HasJustStored before.journal after.state
  pub stays : IsTrue before.journal.tells → after.journal.pieces ≡ before.journal.pieces
  pub counts : (after.journal.tells ≡ before.journal.tells) × (before.journal.faults ≤ after.journal.faults)

-- after a Restart was made for a session's client
pub record HasBegun (before after : TurnView) (session : SessionView) (moment : ℕ) : Type 0 where
  pub entered : HasEntered before.state after.state session.seen (entry_in before.state moment act.Restart)
  pub totals : after.state.totals ≡ one_more_at (made_place session.conits session.client) before.state.totals
  pub book : after.book ≡ one_more_at (made_place session.conits session.client) before.book
  pub owes : after.owes ≡ before.owes
  pub counts : (after.journal.tells ≡ before.journal.tells) × (before.journal.faults ≤ after.journal.faults)

-- a node that began anew: its replica was made again, then a Restart was made
pub record HasRestarted (before after : TurnView) (session : SessionView) (moment : ℕ) : Type 0 where
  pub between : TurnView
  pub found : HasFound before between
  pub begun : HasBegun between after session moment

-- a refusal left the replica, the stored entries, the totals and what is owed, and was marked
pub record HasLeftState (before after : TurnView) (session : SessionView) (told : RestartFault) : Type 0 where
  pub core : after.state.core ≡ before.state.core
  pub stored : after.state.stored ≡ before.state.stored
  pub totals : after.state.totals ≡ before.state.totals
  pub book : after.book ≡ restart_book session.conits session.client told before.book
  pub owes : after.owes ≡ before.owes

-- a node whose journal wasn't read again, and has the same pieces
pub record HasNotFound (before after : TurnView) (session : SessionView) (told : RestartFault) : Type 0 where
  pub left : HasLeftState before after session told
  pub fault : IsRereadRefusal before.journal after.journal told
  pub doubt : after.journal.doubt ≡ before.journal.doubt
  pub stays : IsTrue before.journal.tells → after.journal.pieces ≡ before.journal.pieces
  pub counts : (after.journal.tells ≡ before.journal.tells) × (before.journal.faults ≤ after.journal.faults)

-- a node that made no Restart, where nothing was in doubt
pub record HasNotBegun (before after : TurnView) (session : SessionView) (moment : ℕ) (told : RestartFault) : Type 0 where
  pub left : HasLeftState before after session told
  pub fault : IsRestartRefusal before.state.core before.journal after.journal told
  pub doubt : HasRestartDoubt before.state moment after.journal told
  pub counts : (after.journal.tells ≡ before.journal.tells) × (before.journal.faults ≤ after.journal.faults)

-- a node that didn't begin anew: its journal wasn't read again, or it was and no Restart was made
abbrev pub HasNotRestarted : TurnView → TurnView → SessionView → ℕ → RestartFault → Type 0
HasNotRestarted before after session moment told =
    HasNotFound before after session told ⊎ ((between : TurnView) × HasFound before between × HasNotBegun between after session moment told)

-- what such a refusal says of what its session has seen
abbrev pub IsRestartFaultSeen : SessionView → RestartFault → Type 0
IsRestartFaultSeen session (fault.Full count clock) = IsFaultSeen session (node_fault.Full count clock)
IsRestartFaultSeen session other = Unit {0}
