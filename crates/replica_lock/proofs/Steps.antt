-- What a step on a turn leaves of its session: where it is refused, and where it made an entry that is no call.
use Rattle.std.proofs.Common.{◌≡◌, ℕ, ◌+◌, ◌≤◌, ◌==◌, false, List, [], ◌∷◌, ◌++◌, length, sym, ap, ◌∙◌, subst, arith}
use Rattle.run_model.specs.Histories.{part_of, calls_in, calls_of, is_call_of, IsPrefix}
use Rattle.run_model.specs.Runs.{IsRun}
use Rattle.run_model.specs.declared.entry.Act.{Act}
use Rattle.run_model.specs.declared.entry.Entry.{Entry}
use Rattle.run_model.specs.declared.entry.Message.{Message}
use Rattle.run_model.proofs.PrefixLemmas.{IsPrefix-append, IsPrefix-filter, IsPrefix-length, IsPrefix-trans}
use Rattle.run_history.specs.Seats.{NoteView}
use Rattle.run_history.specs.Ticks.{entries_of}
use Rattle.weight_ledger.specs.Seen.{TallyView}
use Rattle.replica_core.specs.States.{Core}
use Rattle.entry_journal.specs.EntryJournals.{JournalView}
use Rattle.locked_replica.specs.Faults.{IsNodeFaultOf}
use Rattle.locked_replica.specs.Journals.{IsRefusal}
use Rattle.replica_lock.specs.Loans.{IsLoanFaultSeen}
use Rattle.replica_lock.specs.Restarts.{IsRestartFaultSeen}
use Rattle.locked_replica.specs.Loans.{IsLoanRefusal, PassesMost, act_of}
use Rattle.locked_replica.specs.Restarting.{IsNoCall, IsRestartRefusal}
use Rattle.locked_replica.specs.Locks.{HasEntered, IsLocked, LockedView, entry_in, part_in}
use Rattle.locked_replica.specs.Parcels.{message_to}
use Rattle.replica_lock.specs.Nodes.{CountsView}
use Rattle.replica_lock.specs.Sessions.{HasHeard, HasMade, IsFaultSeen, KeepsSession, NodeView, SessionView}
use Rattle.locked_replica.specs.declared.fault.NodeFault.{NodeFault}
use Rattle.locked_replica.specs.declared.fault.NodeFault.TheVariants as fault
use Rattle.locked_replica.specs.declared.fault.NodeLoanFault.{NodeLoanFault}
use Rattle.locked_replica.specs.declared.fault.NodeLoanFault.TheVariants as loan_fault
use Rattle.locked_replica.specs.declared.fault.RestartFault.{RestartFault}
use Rattle.locked_replica.specs.declared.fault.RestartFault.TheVariants as restart_fault
use Rattle.locked_replica.specs.declared.loan.Loan.{Loan}
use Rattle.locked_replica.specs.declared.loan.Loan.TheVariants as loan
use Rattle.replica_lock.proofs.Made.{HasMade-entered, HasMade-part}
use Rattle.replica_lock.proofs.Seeing.{HasHeard-learnt, IsFaultSeen-of, IsFaultSeen-refused}
use Rattle.replica_lock.proofs.Turning.{Agreed, Tells, tells}

-- a session by what its tally and its note then are, where it is refused and where an entry was made for it
abbrev pub noted : SessionView → TallyView → NoteView → SessionView
noted session tally note = record session { cell = tally.id; desk = note.table; seen = note.seen }

abbrev pub noted_made : SessionView → TallyView → NoteView → SessionView
noted_made session tally note = record session { cell = tally.id; desk = note.table; made = session.made + 1; seen = note.seen }

-- what a client has made of a history that is a front of another
calls_grow : (seen more : List Entry) (replica client : ℕ) → IsPrefix seen more → calls_in (part_of seen replica) client ≤ calls_in (part_of more replica) client
calls_grow seen more replica client front =
    IsPrefix-length (calls_of seen replica client) (calls_of more replica client)
    (IsPrefix-filter (λ (e : Entry). is_call_of client e.act) (part_of seen replica) (part_of more replica)
    (IsPrefix-filter (λ (e : Entry). e.replica == replica) seen more front))

-- a session whose note has seen more, and of its client the same calls if it isn't in doubt
pub KeepsSession-noted : {session : SessionView} {tally now : TallyView} (note : NoteView)
    → KeepsSession session tally
    → now ≡ tally
    → IsPrefix session.seen note.seen
    → (session.doubt ≡ false → calls_of note.seen session.replica session.client ≡ calls_of session.seen session.replica session.client)
    → KeepsSession (noted session now note) now
KeepsSession-noted {session} {tally} {now} note keeps same told calls =
    subst (KeepsSession (noted session now note)) (sym same) (record {
      among = keeps.among;
      few = keeps.few;
      places = keeps.places;
      calls = λ certain. ap length (calls certain) ∙ keeps.calls certain;
      least = let more = calls_grow session.seen note.seen session.replica session.client told in omega (arith, keeps.least, more);
    })

-- What a refusal leaves of a session: it has heard what the clerk has seen, and the fault says so of it.
pub record HasLeft (node : NodeView) (before : LockedView) (old new : SessionView) : Type 0 where
  pub heard : HasHeard node.desk.setup old old new
  pub fault : (had has : JournalView) (told : NodeFault) → IsRefusal before.core had has told → IsFaultSeen new told
  pub loan_fault : (asked : Loan) (had has : JournalView) (told : NodeLoanFault)
      → IsLoanRefusal before.core (part_in before) had has asked told
      → IsLoanFaultSeen node.desk.setup new asked told
  pub restart_fault : (had has : JournalView) (told : RestartFault) → IsRestartRefusal before.core had has told → IsRestartFaultSeen new told

-- A refused step, which left the core and the stored entries as they were,
-- and whose note has seen what the clerk then has.
module _ {node node_as : NodeView} {counts : CountsView} {before after : LockedView} {session : SessionView} {tally now : TallyView} (note : NoteView)
    (agrees : Agreed node counts before session tally now) (kept : IsLocked after) (core : after.core ≡ before.core) (stored : after.stored ≡ before.stored)
    (seen : (note.table ≡ session.desk) × (note.seen ≡ after.clerk.seen)) (learnt : IsPrefix session.seen note.seen)
    (same : node_as ≡ node) (runs : IsRun node_as.desk.setup note.seen) where
  knows : Tells node before session
  knows = tells agrees

  replica : session.replica ≡ after.core.replica
  replica = knows.replica ∙ sym (ap (λ (c : Core). c.replica) core)

  run : IsRun node.desk.setup note.seen
  run = subst (λ (n : NodeView). IsRun n.desk.setup note.seen) same runs

  value : noted session now note ≡ record session { seen = after.clerk.seen }
  value = let cells = agrees.cell in let desks = seen.0 in let seens = seen.1 in cc

  heard : HasHeard node.desk.setup session session (noted session now note)
  heard =
      HasHeard-learnt node.desk.setup agrees.turn.keeps.sound after session (noted session now note) kept replica
      (λ certain. knows.calls certain ∙ sym (ap (λ pairs. calls_in (entries_of pairs) session.client) stored))
      knows.known (subst (IsPrefix session.seen) seen.1 learnt) (subst (IsRun node.desk.setup) seen.1 run) value

  fault_seen : (had has : JournalView) (told : NodeFault) → IsRefusal before.core had has told → IsFaultSeen (noted session now note) told
  fault_seen had has told of =
      IsFaultSeen-refused node.desk.setup agrees.turn.keeps.sound after (noted session now note) had has told kept replica seen.1 run
      (subst (λ (c : Core). IsRefusal c had has told) (sym core) of)

  passes : (asked : Loan) (told : NodeLoanFault)
      → PassesMost before.core.setup before.core.replica (part_in before) asked told
      → PassesMost node.desk.setup session.replica (part_of note.seen session.replica) asked told
  passes asked told of =
      let part : part_of note.seen session.replica ≡ part_in before =
      ap (λ h. part_of h session.replica) seen.1 ∙ ap (part_of after.clerk.seen) replica ∙ kept.own ∙ ap entries_of stored in
      subst (λ p. PassesMost node.desk.setup session.replica p asked told) (sym part)
      (subst (λ r. PassesMost node.desk.setup r (part_in before) asked told) (sym knows.replica)
      (subst (λ s. PassesMost s before.core.replica (part_in before) asked told) (sym knows.setup) of))

  loan_fault_seen : (asked : Loan) (had has : JournalView) (told : NodeLoanFault)
      → IsLoanRefusal before.core (part_in before) had has asked told
      → IsLoanFaultSeen node.desk.setup (noted session now note) asked told
  loan_fault_seen asked had has (loan_fault.Node told) of = fault_seen had has told of.0
  loan_fault_seen asked had has (loan_fault.Home at most) of = passes asked (loan_fault.Home at most) of.2
  loan_fault_seen asked had has (loan_fault.Free at most) of = passes asked (loan_fault.Free at most) of.2

  restart_fault_seen : (had has : JournalView) (told : RestartFault) → IsRestartRefusal before.core had has told → IsRestartFaultSeen (noted session now note) told
  restart_fault_seen had has (restart_fault.Full count stamp) of =
      let most : IsNodeFaultOf before.core (fault.Full count stamp) = (of.0, of.1, of.2) in
      IsFaultSeen-of node.desk.setup agrees.turn.keeps.sound after (noted session now note) (fault.Full count stamp) kept replica seen.1 run
      (subst (λ (c : Core). IsNodeFaultOf c (fault.Full count stamp)) (sym core) most)
  restart_fault_seen had has restart_fault.NoMemory of = tt
  restart_fault_seen had has restart_fault.JournalFault of = tt
  restart_fault_seen had has restart_fault.JournalReadFault of = tt
  restart_fault_seen had has (restart_fault.Foreign place) of = tt

  pub left : HasLeft node before session (noted session now note)
  left = record { heard = heard; fault = fault_seen; loan_fault = loan_fault_seen; restart_fault = restart_fault_seen }

  -- and its tally keeps what it has to
  pub keeps_left : now ≡ tally → KeepsSession (noted session now note) now
  keeps_left is = KeepsSession-noted note agrees.keeps is learnt heard.calls

-- A step that made an entry that is no call.
module _ {node : NodeView} {counts : CountsView} {before after : LockedView} {session : SessionView} {tally now : TallyView} (note : NoteView)
    (moment : ℕ) (done : Act) (agrees : Agreed node counts before session tally now)
    (seen : (note.table ≡ session.desk) × (note.seen ≡ after.clerk.seen)) (entered : HasEntered before after session.seen (entry_in before moment done))
    (quiet : is_call_of session.client done ≡ false) where
  tells_made : Tells node before session
  tells_made = tells agrees

  value_made : noted_made session now note ≡ record session { made = session.made + 1; seen = after.clerk.seen }
  value_made = let cells = agrees.cell in let desks = seen.0 in let seens = seen.1 in cc

  pub made : HasMade node.desk.setup session (noted_made session now note) moment done
  made =
      HasMade-entered node.desk.setup agrees.turn.keeps.sound before after session (noted_made session now note) moment done
      tells_made.setup tells_made.replica entered value_made tells_made.calls tells_made.known quiet

  -- a message that was due behind the lock is due in what the session has seen
  pub message_made : (to : ℕ) (message : Message)
      → message ≡ message_to before.core.setup before.core.replica (part_in before) moment to
      → message ≡ message_to node.desk.setup session.replica (part_of made.front session.replica) moment to
  message_made to message is =
      let part =
      HasMade-part node.desk.setup agrees.turn.keeps.sound before after session (noted_made session now note) moment done
      tells_made.setup tells_made.replica entered value_made made in
      is ∙ sym (ap (λ s. message_to s session.replica (part_of made.front session.replica) moment to) tells_made.setup
      ∙ ap (λ r. message_to before.core.setup r (part_of made.front session.replica) moment to) tells_made.replica
      ∙ ap (λ p. message_to before.core.setup before.core.replica p moment to) part)

  -- and the session's tally keeps what it has to before the entry is counted
  pub keeps_made : now ≡ tally → KeepsSession (noted session now note) now
  keeps_made is =
      KeepsSession-noted note agrees.keeps is
      (subst (IsPrefix session.seen) (sym (seen.1 ∙ entered.seen)) (IsPrefix-trans session.seen entered.front (entered.front ++ entry_in before moment done ∷ []) entered.told (IsPrefix-append entered.front (entry_in before moment done ∷ []))))
      made.calls

-- a loan is no call
pub loan-no_call : (asked : Loan) → IsNoCall (act_of asked)
loan-no_call (loan.Out holder conit amount) = tt
loan-no_call (loan.Back owner conit amount) = tt
