-- What a node lends of its own bounds and gives back of its shares of others', and why it doesn't.
use Rattle.std.specs.Prelude.{◌≡◌, ◌≢◌, ℕ, ◌<◌, ◌≤◌, false, List}
use Rattle.tact_base.specs.Setup.{Setup}
use Rattle.tact_base.specs.declared.limits.TheConstants.{AMOUNT_MAX}
use Rattle.run_model.specs.Loans.{home, free}
use Rattle.run_model.specs.declared.entry.Act.{Act}
use Rattle.run_model.specs.declared.entry.Act.TheVariants as act
use Rattle.run_model.specs.declared.entry.Entry.{Entry}
use Rattle.replica_core.specs.States.{Core, is_full}
use Rattle.replica_core.specs.Stands.{Stands}
use Rattle.entry_journal.specs.EntryJournals.{IsUntouched, JournalView}
use Rattle.locked_replica.specs.Faults.{IsNodeFaultOf}
use Rattle.locked_replica.specs.Journals.{IsInDoubtAfter, IsRefusal, OnlyWhere}
use Rattle.locked_replica.specs.declared.fault.NodeFault.TheVariants as node_fault
use Rattle.locked_replica.specs.declared.fault.NodeLoanFault.{NodeLoanFault}
use Rattle.locked_replica.specs.declared.fault.NodeLoanFault.TheVariants as fault
use Rattle.locked_replica.specs.declared.loan.Loan.{Loan}
use Rattle.locked_replica.specs.declared.loan.Loan.TheVariants as loan

-- the act of a loan, and what its amount is at most after a part of a replica: what is at home,
-- or what is free of a share
abbrev pub act_of : Loan → Act
act_of (loan.Out holder conit amount) = act.Lend holder conit amount
act_of (loan.Back owner conit amount) = act.Back owner conit amount

abbrev pub amount_of : Loan → ℕ
amount_of (loan.Out holder conit amount) = amount
amount_of (loan.Back owner conit amount) = amount

abbrev pub most_of : Setup → ℕ → List Entry → Loan → ℕ
most_of setup replica part (loan.Out holder conit amount) = home setup replica part conit
most_of setup replica part (loan.Back owner conit amount) = free setup replica part owner conit

-- a loan that a replica of a setup may be asked for
abbrev pub IsBetween : Setup → ℕ → ℕ → ℕ → ℕ → Type 0
IsBetween setup replica peer conit amount = (peer < setup.replicas) × (peer ≢ replica) × (conit < setup.conits) × (amount ≤ AMOUNT_MAX)

abbrev pub IsLoanInRange : Setup → ℕ → Loan → Type 0
IsLoanInRange setup replica (loan.Out holder conit amount) = IsBetween setup replica holder conit amount
IsLoanInRange setup replica (loan.Back owner conit amount) = IsBetween setup replica owner conit amount

-- A replica may make the entry of a loan: it isn't full, and the amount doesn't pass what it is at most.
pub record MayMove (core : Core) (asked : Loan) : Type 0 where
  pub free : is_full core ≡ false
  pub part : List Entry
  pub stands : Stands part core
  pub within : amount_of asked ≤ most_of core.setup core.replica part asked

-- Why a loan was refused after a part of a replica, and what a node then says: an amount on a conit that passes what is
-- at home, or what is free of the share of an owner's bound.
abbrev pub PassesMost : Setup → ℕ → List Entry → Loan → NodeLoanFault → Type 0
PassesMost setup replica part (loan.Out holder conit amount) (fault.Home at most) =
    (at ≡ conit) × (most ≡ home setup replica part conit) × (most < amount)
PassesMost setup replica part (loan.Back owner conit amount) (fault.Free at most) =
    (at ≡ conit) × (most ≡ free setup replica part owner conit) × (most < amount)
PassesMost setup replica part asked told = ⊥

-- Of the refusals full comes first, then that the amount passes, and want of memory last.
abbrev pub IsLoanFaultOf : Core → List Entry → Loan → NodeLoanFault → Type 0
IsLoanFaultOf core part asked (fault.Node told) =
    IsNodeFaultOf core told × (told ≡ node_fault.NoMemory → amount_of asked ≤ most_of core.setup core.replica part asked)
IsLoanFaultOf core part asked told = (is_full core ≡ false) × PassesMost core.setup core.replica part asked told

-- The same of a turn, and what it leaves of the journal.
abbrev pub IsLoanRefusal : Core → List Entry → JournalView → JournalView → Loan → NodeLoanFault → Type 0
IsLoanRefusal core part before after asked (fault.Node told) =
    IsRefusal core before after told
    × (told ≡ node_fault.NoMemory → amount_of asked ≤ most_of core.setup core.replica part asked)
    × (told ≡ node_fault.JournalFault → amount_of asked ≤ most_of core.setup core.replica part asked)
IsLoanRefusal core part before after asked told =
    (before.halted ≡ false) × (is_full core ≡ false) × PassesMost core.setup core.replica part asked told × IsUntouched before after

-- after the journal failed the entry of a loan, that one is in doubt
abbrev pub IsLentInDoubt : JournalView → Entry → NodeLoanFault → Type 0
IsLentInDoubt journal entry (fault.Node told) = IsInDoubtAfter journal entry told
IsLentInDoubt journal entry other = Unit {0}

-- of the refusals of a loan, those of a journal come only where this holds
abbrev pub OnlyWhereLent : Type 0 → NodeLoanFault → Type 0
OnlyWhereLent Met (fault.Node told) = OnlyWhere Met told
OnlyWhereLent Met other = Unit {0}
