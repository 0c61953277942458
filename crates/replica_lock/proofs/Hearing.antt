-- What a session that marks a fault has heard.
use Rattle.std.proofs.Common.{◌≡◌, List, refl, sym, ap, ◌∙◌, subst}
use Rattle.tact_base.specs.Setup.{Setup}
use Rattle.run_model.specs.Histories.{calls_of, IsPrefix}
use Rattle.run_model.specs.Promises.{IsKept}
use Rattle.run_model.specs.Runs.{IsRun}
use Rattle.run_model.specs.declared.entry.Entry.{Entry}
use Rattle.locked_replica.specs.declared.fault.NodeFault.{NodeFault}
use Rattle.locked_replica.specs.declared.fault.NodeFault.TheVariants as fault
use Rattle.locked_replica.specs.declared.fault.NodeLoanFault.{NodeLoanFault}
use Rattle.locked_replica.specs.declared.fault.NodeLoanFault.TheVariants as loan_fault
use Rattle.locked_replica.specs.declared.fault.RestartFault.{RestartFault}
use Rattle.locked_replica.specs.declared.fault.RestartFault.TheVariants as restart_fault
use Rattle.locked_replica.specs.declared.loan.Loan.{Loan}
use Rattle.replica_lock.specs.Loans.{IsLoanFaultSeen}
use Rattle.replica_lock.specs.Restarts.{IsRestartFaultSeen}
use Rattle.replica_lock.specs.Sessions.{HasHeard, IsFaultSeen, SessionView, failed_by, marked_by, marked_lent, marked_restart}

-- a change of a session that has nothing to do with what it has seen, nor with whose it is
pub record IsMarking (mark : SessionView → SessionView) : Type 0 where
  pub keeps : (session : SessionView) (seen : List Entry) → mark (record session { seen = seen }) ≡ record (mark session) { seen = seen }
  pub seen : (session : SessionView) → (mark session).seen ≡ session.seen
  pub replica : (session : SessionView) → (mark session).replica ≡ session.replica
  pub client : (session : SessionView) → (mark session).client ≡ session.client

pub marking : (told : NodeFault) → IsMarking (marked_by told)
marking fault.Halted = record { keeps = λ session seen. refl; seen = λ session. refl; replica = λ session. refl; client = λ session. refl }
marking fault.JournalFault = record { keeps = λ session seen. refl; seen = λ session. refl; replica = λ session. refl; client = λ session. refl }
marking (fault.Full count clock) = record { keeps = λ session seen. refl; seen = λ session. refl; replica = λ session. refl; client = λ session. refl }
marking fault.NoMemory = record { keeps = λ session seen. refl; seen = λ session. refl; replica = λ session. refl; client = λ session. refl }

pub marking_failed : (told : NodeFault) → IsMarking (failed_by told)
marking_failed fault.Halted = record { keeps = λ session seen. refl; seen = λ session. refl; replica = λ session. refl; client = λ session. refl }
marking_failed fault.JournalFault = record { keeps = λ session seen. refl; seen = λ session. refl; replica = λ session. refl; client = λ session. refl }
marking_failed (fault.Full count clock) = record { keeps = λ session seen. refl; seen = λ session. refl; replica = λ session. refl; client = λ session. refl }
marking_failed fault.NoMemory = record { keeps = λ session seen. refl; seen = λ session. refl; replica = λ session. refl; client = λ session. refl }

pub marking_lent : (told : NodeLoanFault) → IsMarking (marked_lent told)
marking_lent (loan_fault.Node told) = marking told
marking_lent (loan_fault.Home conit home) = record { keeps = λ session seen. refl; seen = λ session. refl; replica = λ session. refl; client = λ session. refl }
marking_lent (loan_fault.Free conit free) = record { keeps = λ session seen. refl; seen = λ session. refl; replica = λ session. refl; client = λ session. refl }

pub marking_restart : (told : RestartFault) → IsMarking (marked_restart told)
marking_restart restart_fault.JournalFault = marking fault.JournalFault
marking_restart restart_fault.JournalReadFault = marking fault.JournalFault
marking_restart (restart_fault.Foreign place) = marking fault.Halted
marking_restart (restart_fault.Full count clock) = marking fault.NoMemory
marking_restart restart_fault.NoMemory = marking fault.NoMemory

-- a session that marks what it was told has heard what it had heard
pub heard_marked : (setup : Setup) (mark : SessionView → SessionView) (old new : SessionView)
    → IsMarking mark
    → HasHeard setup old old new
    → HasHeard setup old (mark old) (mark new)
heard_marked setup mark old new is heard = record {
  value = ap mark heard.value ∙ is.keeps old new.seen ∙ ap (λ h. record (mark old) { seen = h }) (sym (is.seen new));
  told = subst (IsPrefix old.seen) (sym (is.seen new)) heard.told;
  calls = λ certain.
      ap (λ h. calls_of h (mark new).replica (mark new).client) (is.seen new)
      ∙ ap (λ r. calls_of new.seen r (mark new).client) (is.replica new)
      ∙ ap (calls_of new.seen new.replica) (is.client new)
      ∙ heard.calls certain;
  run = subst (IsRun setup) (sym (is.seen new)) heard.run;
  promised = subst (IsKept setup) (sym (is.seen new)) heard.promised;
}

-- and what the fault says of what it has seen
pub seen_marked : (told : NodeFault) (session : SessionView) → IsFaultSeen session told → IsFaultSeen (marked_by told session) told
seen_marked (fault.Full count clock) session seen = seen
seen_marked fault.Halted session seen = tt
seen_marked fault.JournalFault session seen = tt
seen_marked fault.NoMemory session seen = tt

pub seen_failed : (told : NodeFault) (session : SessionView) → IsFaultSeen session told → IsFaultSeen (failed_by told session) told
seen_failed (fault.Full count clock) session seen = seen
seen_failed fault.Halted session seen = tt
seen_failed fault.JournalFault session seen = tt
seen_failed fault.NoMemory session seen = tt

pub seen_lent : (setup : Setup) (asked : Loan) (told : NodeLoanFault) (session : SessionView)
    → IsLoanFaultSeen setup session asked told
    → IsLoanFaultSeen setup (marked_lent told session) asked told
seen_lent setup asked (loan_fault.Node told) session seen = seen_marked told session seen
seen_lent setup asked (loan_fault.Home conit home) session seen = seen
seen_lent setup asked (loan_fault.Free conit free) session seen = seen

pub seen_restart : (told : RestartFault) (session : SessionView) → IsRestartFaultSeen session told → IsRestartFaultSeen (marked_restart told session) told
seen_restart (restart_fault.Full count clock) session seen = seen
seen_restart restart_fault.JournalFault session seen = tt
seen_restart restart_fault.JournalReadFault session seen = tt
seen_restart (restart_fault.Foreign place) session seen = tt
seen_restart restart_fault.NoMemory session seen = tt
