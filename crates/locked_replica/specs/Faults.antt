-- Why a node made no entry.
use Rattle.std.specs.Prelude.{◌≡◌, true, false}
use Rattle.replica_core.specs.States.{Core, is_full}
use Rattle.replica_core.specs.declared.fault.CoreFault.{CoreFault}
use Rattle.replica_core.specs.declared.fault.CoreFault.TheVariants as core_fault
use Rattle.replica_core.specs.declared.fault.LoanFault.{LoanFault}
use Rattle.replica_core.specs.declared.fault.LoanFault.TheVariants as core_loan
use Rattle.journal_reread.specs.declared.fault.RereadFault.{RereadFault}
use Rattle.journal_reread.specs.declared.fault.RereadFault.TheVariants as reread
use Rattle.locked_replica.specs.declared.fault.RestartFault.{RestartFault}
use Rattle.locked_replica.specs.declared.fault.RestartFault.TheVariants as restart
use Rattle.locked_replica.specs.declared.fault.NodeLoanFault.{NodeLoanFault}
use Rattle.locked_replica.specs.declared.fault.NodeLoanFault.TheVariants as node_loan
use Rattle.locked_replica.specs.declared.fault.NodeFault.{NodeFault}
use Rattle.locked_replica.specs.declared.fault.NodeFault.TheVariants as fault

-- a fault of a replica, as its node's
abbrev pub node_fault : CoreFault → NodeFault
node_fault (core_fault.Full count clock) = fault.Full count clock
node_fault core_fault.NoMemory = fault.NoMemory

-- a fault of a loan, as its node's
abbrev pub loan_fault : LoanFault → NodeLoanFault
loan_fault (core_loan.Full count clock) = node_loan.Node (fault.Full count clock)
loan_fault (core_loan.Home conit home) = node_loan.Home conit home
loan_fault (core_loan.Free conit free) = node_loan.Free conit free

-- a fault of a journal that is read again, and one of a replica, as those of a restart
abbrev pub reread_fault : RereadFault → RestartFault
reread_fault (reread.Foreign place) = restart.Foreign place
reread_fault reread.JournalReadFault = restart.JournalReadFault
reread_fault reread.NoMemory = restart.NoMemory

abbrev pub restart_fault : CoreFault → RestartFault
restart_fault (core_fault.Full count clock) = restart.Full count clock
restart_fault core_fault.NoMemory = restart.NoMemory

-- of a replica alone: full, with both numbers, exactly where it is full
abbrev pub IsNodeFaultOf : Core → NodeFault → Type 0
IsNodeFaultOf core (fault.Full count clock) = (is_full core ≡ true) × (count ≡ core.counts.count) × (clock ≡ core.writes.clock)
IsNodeFaultOf core fault.NoMemory = is_full core ≡ false
IsNodeFaultOf core fault.Halted = ⊥
IsNodeFaultOf core fault.JournalFault = ⊥
