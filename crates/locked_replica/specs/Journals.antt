-- What a node's journal has of the entries that are stored, and what a call leaves of it.
use Rattle.std.specs.Prelude.{◌≡◌, ◌≢◌, ℕ, Bool, List, IsTrue, Option, None, Some, false, true}
use Rattle.tact_base.specs.Setup.{Setup}
use Rattle.tact_io.specs.Faults.{HasRisen}
use Rattle.run_history.specs.Seats.{ClerkView}
use Rattle.run_model.specs.Histories.{calls_in, moment_at}
use Rattle.run_model.specs.Replies.{reply_of}
use Rattle.run_model.specs.Runs.{IsDue, WasSent}
use Rattle.run_model.specs.declared.call.Request.{Request}
use Rattle.run_model.specs.declared.entry.Act.{Act}
use Rattle.run_model.specs.declared.entry.Act.TheVariants as act
use Rattle.run_model.specs.declared.entry.Entry.{Entry}
use Rattle.replica_core.specs.States.{Core, is_full}
use Rattle.entry_journal.specs.EntryJournals.{HasPiecesOf, IsUntouched, JournalView}
use Rattle.locked_replica.specs.Locks.{LockedView, entry_in, part_in}
use Rattle.locked_replica.specs.Parcels.{message_to}
use Rattle.locked_replica.specs.declared.fault.NodeFault.{NodeFault}
use Rattle.locked_replica.specs.declared.fault.NodeFault.TheVariants as fault

-- An entry may come next after a part of a replica, where a history was seen: it is the replica's and due after the part,
-- and a message that it takes was sent in the history.
pub record MayComeAfter (setup : Setup) (number : ℕ) (part seen : List Entry) (entry : Entry) : Type 0 where
  pub replica : entry.replica ≡ number
  pub due : IsDue setup part entry
  pub sent : WasSent seen entry.act

-- an entry may come next at a replica, after the stored entries, in the history that the clerk has seen
abbrev pub MayComeNext : LockedView → Entry → Type 0
MayComeNext state entry = MayComeAfter state.core.setup state.core.replica (part_in state) state.clerk.seen entry

-- an entry in doubt, if there is one, may come next
abbrev pub DoubtMayCome : LockedView → Option Entry → Type 0
DoubtMayCome state None = Unit {0}
DoubtMayCome state (Some doubt) = MayComeNext state doubt

-- Where the journal tells its pieces, they are those of the stored entries, or of these and of the one in doubt, which
-- may come next. None is in doubt where it isn't halted; and where it is, it has counted a fault or doesn't tell.
pub record IsJournaled (state : LockedView) (journal : JournalView) : Type 0 where
  pub pieces : IsTrue journal.tells → HasPiecesOf journal.pieces (part_in state) journal.doubt
  pub next : DoubtMayCome state journal.doubt
  pub certain : journal.halted ≡ false → journal.doubt ≡ None
  pub counted : journal.halted ≡ true → IsTrue journal.tells → journal.faults ≢ 0

-- Why a turn made no entry, and what that leaves of the journal: halted, full with both numbers, want of memory, or that
-- the journal failed in this call, which halts it. Of these the first that applies is told.
abbrev pub IsRefusal : Core → JournalView → JournalView → NodeFault → Type 0
IsRefusal core before after fault.Halted = (before.halted ≡ true) × IsUntouched before after
IsRefusal core before after (fault.Full count clock) =
    (before.halted ≡ false) × (is_full core ≡ true) × (count ≡ core.counts.count) × (clock ≡ core.writes.clock) × IsUntouched before after
IsRefusal core before after fault.NoMemory = (before.halted ≡ false) × (is_full core ≡ false) × IsUntouched before after
IsRefusal core before after fault.JournalFault =
    (before.halted ≡ false) × (is_full core ≡ false) × (after.halted ≡ true) × HasRisen before.faults after.faults

-- after the journal failed an entry, that one is in doubt
abbrev pub IsInDoubtAfter : JournalView → Entry → NodeFault → Type 0
IsInDoubtAfter journal entry fault.JournalFault = journal.doubt ≡ Some entry
IsInDoubtAfter journal entry other = Unit {0}

-- why no room was made: the journal is halted, or want of memory
abbrev pub IsRoomRefusal : JournalView → NodeFault → Type 0
IsRoomRefusal journal fault.Halted = journal.halted ≡ true
IsRoomRefusal journal fault.NoMemory = journal.halted ≡ false
IsRoomRefusal journal other = ⊥

-- of the refusals, those of a journal come only where this holds
abbrev pub OnlyWhere : Type 0 → NodeFault → Type 0
OnlyWhere Met fault.Halted = Met
OnlyWhere Met fault.JournalFault = Met
OnlyWhere Met other = Unit {0}

-- the call of a client as its entry would be now, with the reply that is due
abbrev pub call_in : LockedView → ℕ → ℕ → Request → Entry
call_in locked moment client asked =
    let part = part_in locked in
    entry_in locked moment (act.Call client (calls_in part client) asked
    (reply_of locked.core.setup locked.core.replica part (moment_at part moment) asked))

-- the sending of the message that is due now to a replica
abbrev pub send_in : LockedView → ℕ → ℕ → Entry
send_in locked moment to = entry_in locked moment (act.Send (message_to locked.core.setup locked.core.replica (part_in locked) moment to))

-- an act is a call with a request
abbrev pub IsRequestOf : Act → Request → Type 0
IsRequestOf (act.Call client number asked given) request = request ≡ asked
IsRequestOf other request = ⊥

-- an act is a sending
abbrev pub IsSending : Act → Type 0
IsSending (act.Send message) = Unit {0}
IsSending other = ⊥

-- What a node that has ended leaves of a journal: where it tells its pieces, they are those of the stored entries; or
-- these, or these and one more, where it failed.
pub record LeavesPieces (tells : Bool) (pieces : List (List ℕ)) (faults : ℕ) (stored : List Entry) : Type 0 where
  pub doubt : Option Entry
  pub has : IsTrue tells → HasPiecesOf pieces stored doubt
  pub failed : (entry : Entry) → doubt ≡ Some entry → IsTrue tells → faults ≢ 0

-- The same of a node of a setup with its clerk: the one more may come next after the stored entries, in the history that
-- the clerk has seen.
pub record LeavesJournal (setup : Setup) (clerk : ClerkView) (tells : Bool) (pieces : List (List ℕ)) (faults : ℕ) (stored : List Entry) : Type 0 where
  pub left : LeavesPieces tells pieces faults stored
  pub next : (entry : Entry) → left.doubt ≡ Some entry → MayComeAfter setup clerk.replica stored clerk.seen entry
