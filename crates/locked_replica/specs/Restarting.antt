-- What a journal that is read again leaves of the value behind a node's lock, and why it isn't.
use Rattle.std.specs.Prelude.{◌≡◌, ℕ, Bool, List, [], ◌∷◌, ◌++◌, filter, map, Option, None, Some, IsTrue, true, false, slice_set}
use Rattle.tact_io.specs.Faults.{HasRisen}
use Rattle.run_model.specs.Histories.{is_call_of}
use Rattle.run_model.specs.Missing.{reserved}
use Rattle.run_model.specs.declared.call.Reply.{Reply}
use Rattle.run_model.specs.declared.call.Request.{Request}
use Rattle.run_model.specs.declared.entry.Act.{Act}
use Rattle.run_model.specs.declared.entry.Act.TheVariants as act
use Rattle.run_model.specs.declared.entry.Entry.{Entry}
use Rattle.replica_core.specs.States.{Core, is_full}
use Rattle.restart_journal.specs.Pieces.{piece_bytes}
use Rattle.entry_journal.specs.EntryJournals.{IsUntouched, JournalView}
use Rattle.locked_replica.specs.Asking.{conit_of, granted_to}
use Rattle.locked_replica.specs.Locks.{HasEntered, LockedView, entry_in, made_place, one_more_at, part_in, turns_place}
use Rattle.locked_replica.specs.declared.fault.RestartFault.{RestartFault}
use Rattle.locked_replica.specs.declared.fault.RestartFault.TheVariants as fault
use Rattle.locked_replica.specs.declared.restarting.Found.{Found}

-- An entry in doubt that a journal gave back, as it counts: a call for its client, with what a reserve was granted; any
-- other for client 0.
abbrev pub found_of : Act → Found
found_of (act.Call client number asked given) = record { client = client; call = true; granted = granted_to asked given }
found_of (act.Send message) = record { client = 0; call = false; granted = None }
found_of (act.Take message) = record { client = 0; call = false; granted = None }
found_of (act.Lend holder conit amount) = record { client = 0; call = false; granted = None }
found_of (act.Back owner conit amount) = record { client = 0; call = false; granted = None }
found_of act.Restart = record { client = 0; call = false; granted = None }

-- the totals with it: a call is one of its client's turns, and changes what is reserved on its conit alone
abbrev pub HasTotalsWith : LockedView → LockedView → Act → Type 0
HasTotalsWith before after (act.Call client number asked given) =
    after.totals ≡ slice_set (one_more_at (made_place before.core.setup.conits client) (one_more_at (turns_place before.core.setup.conits client) before.totals))
    (conit_of asked) (reserved (part_in after) (conit_of asked))
HasTotalsWith before after done = after.totals ≡ one_more_at (made_place before.core.setup.conits 0) before.totals

-- a call of a client on a conit, and an act that is none
abbrev pub IsCallOf : ℕ → ℕ → Act → Type 0
IsCallOf client conit (act.Call who number asked given) = (who ≡ client) × (conit_of asked ≡ conit)
IsCallOf client conit done = ⊥

abbrev pub IsNoCall : Act → Type 0
IsNoCall (act.Call client number asked given) = ⊥
IsNoCall done = Unit {0}

-- the one in doubt was drawn and stored
pub record HasRedrawn (before after : LockedView) (doubt : Option Entry) (found : Found) : Type 0 where
  pub entry : Entry
  pub was : doubt ≡ Some entry
  pub entered : HasEntered before after before.clerk.seen entry
  pub totals : HasTotalsWith before after entry.act
  pub counts : found ≡ found_of entry.act

-- where a journal tells its pieces, they are those of just the stored entries
abbrev pub HasJustStored : JournalView → LockedView → Type 0
HasJustStored journal state = IsTrue journal.tells → journal.pieces ≡ map piece_bytes (part_in state)

-- After the journal was read again: the same entries are stored, or these and the one that was in doubt. Which of both
-- hangs on what the journal has, which is just what is stored then (HasJustStored).
abbrev pub HasReread : LockedView → LockedView → Option Entry → Option Found → Type 0
HasReread before after doubt None = (after.stored ≡ before.stored) × (after.totals ≡ before.totals)
HasReread before after doubt (Some found) = HasRedrawn before after doubt found

-- Why the journal wasn't read again: want of memory, which leaves it as it was; that it failed in this call, or gave
-- another piece than was appended, which halts it. The last never comes where the journal tells its pieces.
abbrev pub IsRereadRefusal : JournalView → JournalView → RestartFault → Type 0
IsRereadRefusal before after fault.NoMemory = after.halted ≡ before.halted
IsRereadRefusal before after fault.JournalReadFault = (after.halted ≡ true) × HasRisen before.faults after.faults
IsRereadRefusal before after (fault.Foreign place) = (after.halted ≡ true) × (IsTrue before.tells → ⊥)
IsRereadRefusal before after (fault.Full count clock) = ⊥
IsRereadRefusal before after fault.JournalFault = ⊥

-- Why no Restart was made, where nothing is in doubt: full with both numbers, want of memory, or that the journal failed
-- in this call, which halts it. Of these the first that applies is told.
abbrev pub IsRestartRefusal : Core → JournalView → JournalView → RestartFault → Type 0
IsRestartRefusal core before after (fault.Full count clock) =
    (is_full core ≡ true) × (count ≡ core.counts.count) × (clock ≡ core.writes.clock) × IsUntouched before after
IsRestartRefusal core before after fault.NoMemory = (is_full core ≡ false) × IsUntouched before after
IsRestartRefusal core before after fault.JournalFault = (is_full core ≡ false) × (after.halted ≡ true) × HasRisen before.faults after.faults
IsRestartRefusal core before after fault.JournalReadFault = ⊥
IsRestartRefusal core before after (fault.Foreign place) = ⊥

-- what is in doubt where no Restart was made: after the journal failed the Restart, else nothing
abbrev pub HasRestartDoubt : LockedView → ℕ → JournalView → RestartFault → Type 0
HasRestartDoubt state moment journal fault.JournalFault = journal.doubt ≡ Some (entry_in state moment act.Restart)
HasRestartDoubt state moment journal other = journal.doubt ≡ None

-- of the refusals, those of a journal that tells its pieces come only where this holds, and it never gives a foreign piece
abbrev pub OnlyWhereRestarted : Bool → Type 0 → RestartFault → Type 0
OnlyWhereRestarted tells Met fault.JournalFault = IsTrue tells → Met
OnlyWhereRestarted tells Met fault.JournalReadFault = IsTrue tells → Met
OnlyWhereRestarted tells Met (fault.Foreign place) = IsTrue tells → ⊥
OnlyWhereRestarted tells Met other = Unit {0}

-- a call of a client with a request and a reply
abbrev pub IsCallWith : ℕ → Request → Reply → Act → Type 0
IsCallWith client asked given (act.Call who number request reply) = (who ≡ client) × (request ≡ asked) × (reply ≡ given)
IsCallWith client asked given done = ⊥

-- the last call of a client in a part, with its request and its reply
pub record IsLastCall (part : List Entry) (client : ℕ) (asked : Request) (given : Reply) : Type 0 where
  pub front : List Entry
  pub entry : Entry
  pub number : ℕ
  pub call : entry.act ≡ act.Call client number asked given
  pub last : filter (λ e. is_call_of client e.act) part ≡ front ++ entry ∷ []
