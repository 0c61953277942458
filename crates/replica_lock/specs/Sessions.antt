-- What contracts see of nodes, of turns and of sessions, and what a session has seen after a call.
use Rattle.std.specs.Prelude.{◌≡◌, ◌≢◌, ℕ, ◌+◌, ◌*◌, ◌<◌, ◌≤◌, Bool, true, false, if◌then◌else◌, List, [], ◌∷◌, ◌++◌, length, slice_index}
use Rattle.atomic_table.specs.Seated.{TableId}
use Rattle.tact_base.specs.Setup.{Setup}
use Rattle.tact_base.specs.declared.limits.TheConstants.{CLIENTS, CONITS_MAX, HISTORY_MAX}
use Rattle.run_model.specs.Histories.{part_of, calls_in, calls_of, moment_at, IsPrefix}
use Rattle.run_model.specs.Promises.{IsKept}
use Rattle.run_model.specs.Replies.{reply_of}
use Rattle.run_model.specs.Runs.{IsDue, IsRun}
use Rattle.run_model.specs.Taking.{clock}
use Rattle.run_model.specs.declared.call.Reply.{Reply}
use Rattle.run_model.specs.declared.call.Request.{Request}
use Rattle.run_model.specs.declared.entry.Act.{Act}
use Rattle.run_model.specs.declared.entry.Act.TheVariants as act
use Rattle.run_model.specs.declared.entry.Entry.{Entry}
use Rattle.run_model.specs.declared.entry.Message.{Message}
use Rattle.run_history.specs.Seats.{DeskView}
use Rattle.weight_ledger.specs.Seen.{TallyView}
use Rattle.entry_journal.specs.EntryJournals.{JournalView}
use Rattle.locked_replica.specs.Locks.{LockedView}
use Rattle.locked_replica.specs.Parcels.{message_to}
use Rattle.locked_replica.specs.declared.fault.NodeFault.{NodeFault}
use Rattle.locked_replica.specs.declared.fault.NodeFault.TheVariants as fault
use Rattle.locked_replica.specs.declared.fault.NodeLoanFault.{NodeLoanFault}
use Rattle.locked_replica.specs.declared.fault.NodeLoanFault.TheVariants as loan_fault
use Rattle.locked_replica.specs.declared.fault.RestartFault.{RestartFault}
use Rattle.locked_replica.specs.declared.fault.RestartFault.TheVariants as restart_fault
use Rattle.replica_lock.specs.Ledgers.{risen}
use Rattle.replica_lock.specs.declared.owe.Owe.{Owe}

-- which cell a node has, its desk with the setup, and its replica
pub record NodeView : Type 0 where
  pub cell : TableId
  pub desk : DeskView
  pub replica : ℕ

-- the node whose lock a turn holds, and what stands behind the lock
pub record TurnView : Type 0 where
  pub node : NodeView
  pub state : LockedView
  pub journal : JournalView
  pub book : List ℕ
  pub owes : List Owe

-- Which node a session is of (its cell, the table of its desk, the count of its conits, its replica), which client it
-- has, its turns and the entries made for it, how often it was told that the journal failed and that the node is halted,
-- whether it is in doubt, and what it has seen of the history.
pub record SessionView : Type 0 where
  pub cell : TableId
  pub desk : TableId
  pub conits : ℕ
  pub replica : ℕ
  pub client : ℕ
  pub calls : ℕ
  pub made : ℕ
  pub faults : ℕ
  pub halts : ℕ
  pub doubt : Bool
  pub seen : List Entry

-- a session is at a node
pub record IsAtNode (node : NodeView) (session : SessionView) : Type 0 where
  pub cell : session.cell ≡ node.cell
  pub desk : session.desk ≡ node.desk.table
  pub conits : session.conits ≡ node.desk.setup.conits
  pub replica : session.replica ≡ node.replica

-- A session may be asked at a node: it is at it, and not in doubt.
pub record IsSessionOf (node : NodeView) (session : SessionView) : Type 0 where
  pub at : IsAtNode node session
  pub certain : session.doubt ≡ false

-- the calls of a session's client that it has seen
abbrev pub own_calls : SessionView → List Entry
own_calls session = calls_of session.seen session.replica session.client

-- the places of a client, by number: its turns, the entries made for it, its faults, its halts and its doubt
abbrev pub place_of : ℕ → ℕ → ℕ → ℕ
place_of conits client k = conits + k * CLIENTS + client

-- the numbers that a session has there
abbrev pub numbers_of : SessionView → List ℕ
numbers_of session = session.calls ∷ session.made ∷ session.faults ∷ session.halts ∷ (if session.doubt then 1 else 0) ∷ []

-- a tally has these five numbers at the places of a client, and owns them
pub record HasPlacesOf (conits client : ℕ) (numbers : List ℕ) (tally : TallyView) : Type 0 where
  pub owns : (k : ℕ) → k < 5 → slice_index tally.owns (place_of conits client k) ≢ 0
  pub amounts : (k : ℕ) → k < 5 → slice_index tally.amounts (place_of conits client k) ≡ slice_index numbers k

-- What a session's tally keeps: it owns the places of its client, with these numbers there. Its turns are the calls of
-- its client that it has seen; while it is in doubt it may have seen more.
pub record KeepsSession (session : SessionView) (tally : TallyView) : Type 0 where
  pub among : session.client < CLIENTS
  pub few : session.conits ≤ CONITS_MAX
  pub places : HasPlacesOf session.conits session.client (numbers_of session) tally
  pub calls : session.doubt ≡ false → calls_in (part_of session.seen session.replica) session.client ≡ session.calls
  pub least : session.calls ≤ calls_in (part_of session.seen session.replica) session.client

-- a call of a client, as the entry that follows a front of the history
abbrev pub call_after : SessionView → List Entry → ℕ → Request → Reply → Entry
call_after session front moment asked given = record {
  replica = session.replica;
  moment = moment_at (part_of front session.replica) moment;
  act = act.Call session.client session.calls asked given;
}

-- a session after it was told a fault, which it marks
abbrev pub marked_by : NodeFault → SessionView → SessionView
marked_by fault.Halted session = record session { halts = risen session.halts }
marked_by fault.JournalFault session = record session { faults = risen session.faults }
marked_by (fault.Full count stamp) session = session
marked_by fault.NoMemory session = session

abbrev pub marked_lent : NodeLoanFault → SessionView → SessionView
marked_lent (loan_fault.Node told) session = marked_by told session
marked_lent other session = session

-- and after a call of its client was: where the journal failed, it is in doubt
abbrev pub failed_by : NodeFault → SessionView → SessionView
failed_by fault.JournalFault session = record session { faults = risen session.faults; doubt = true }
failed_by other session = marked_by other session

-- and after a restart was: where the journal failed or gave another piece, it marks that
abbrev pub marked_restart : RestartFault → SessionView → SessionView
marked_restart restart_fault.JournalFault session = record session { faults = risen session.faults }
marked_restart restart_fault.JournalReadFault session = record session { faults = risen session.faults }
marked_restart (restart_fault.Foreign place) session = record session { halts = risen session.halts }
marked_restart (restart_fault.Full count stamp) session = session
marked_restart restart_fault.NoMemory session = session

-- What a session has seen after a call of its client that was answered: a run that keeps its promises, begins with all
-- that the session had seen and ends with this call, whose reply is the one that is due there. Of the client's calls it
-- has those that the session had seen, followed by this one.
pub record HasCalled (setup : Setup) (before after : SessionView) (moment : ℕ) (asked : Request) (given : Reply) : Type 0 where
  pub front : List Entry
  pub seen : after.seen ≡ front ++ call_after before front moment asked given ∷ []
  pub told : IsPrefix before.seen front
  pub due : given ≡ reply_of setup before.replica (part_of front before.replica) (moment_at (part_of front before.replica) moment) asked
  pub calls : own_calls after ≡ own_calls before ++ call_after before front moment asked given ∷ []
  pub run : IsRun setup after.seen
  pub promised : IsKept setup after.seen
  pub counts : after ≡ record before { calls = before.calls + 1; made = before.made + 1; seen = after.seen }

-- an act of a session's replica, as the entry that follows a front of the history
abbrev pub entry_after : SessionView → List Entry → ℕ → Act → Entry
entry_after session front moment done = record {
  replica = session.replica;
  moment = moment_at (part_of front session.replica) moment;
  act = done;
}

-- What a session has seen after an entry was made for its client that is no call: a run that keeps its promises, begins
-- with all that the session had seen and ends with this entry, which is due there. It has the same calls of the client,
-- if it wasn't in doubt.
pub record HasMade (setup : Setup) (before after : SessionView) (moment : ℕ) (done : Act) : Type 0 where
  pub front : List Entry
  pub seen : after.seen ≡ front ++ entry_after before front moment done ∷ []
  pub told : IsPrefix before.seen front
  pub due : IsDue setup (part_of front before.replica) (entry_after before front moment done)
  pub calls : before.doubt ≡ false → own_calls after ≡ own_calls before
  pub run : IsRun setup after.seen
  pub promised : IsKept setup after.seen
  pub counts : after ≡ record before { made = before.made + 1; seen = after.seen }

-- After a message was sent to a replica: it is the one that is due there, where no firsts are given.
pub record HasSent (setup : Setup) (before after : SessionView) (moment to : ℕ) (message : Message) : Type 0 where
  pub made : HasMade setup before after moment (act.Send message)
  pub message_is : message ≡ message_to setup before.replica (part_of made.front before.replica) moment to

-- What a session has seen after a call that was refused, with these marks: a run that begins with all that it had seen,
-- and has the same calls of the client, if it wasn't in doubt.
pub record HasHeard (setup : Setup) (before marks after : SessionView) : Type 0 where
  pub value : after ≡ record marks { seen = after.seen }
  pub told : IsPrefix before.seen after.seen
  pub calls : before.doubt ≡ false → own_calls after ≡ own_calls before
  pub run : IsRun setup after.seen
  pub promised : IsKept setup after.seen

-- what a refusal says of what its session has seen: full, where the replica made as many entries as it may,
-- with both numbers
abbrev pub IsFaultSeen : SessionView → NodeFault → Type 0
IsFaultSeen session (fault.Full count stamp) =
    let part = part_of session.seen session.replica in
    (length part ≡ HISTORY_MAX) × (count ≡ HISTORY_MAX) × (stamp ≡ clock part)
IsFaultSeen session other = Unit {0}
