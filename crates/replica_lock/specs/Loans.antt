-- What the refusal of a loan says of what its session has seen.
use Rattle.tact_base.specs.Setup.{Setup}
use Rattle.run_model.specs.Histories.{part_of}
use Rattle.locked_replica.specs.Loans.{PassesMost}
use Rattle.locked_replica.specs.declared.fault.NodeLoanFault.{NodeLoanFault}
use Rattle.locked_replica.specs.declared.fault.NodeLoanFault.TheVariants as fault
use Rattle.locked_replica.specs.declared.loan.Loan.{Loan}
use Rattle.replica_lock.specs.Sessions.{IsFaultSeen, SessionView}

-- what such a refusal says of what its session has seen
abbrev pub IsLoanFaultSeen : Setup → SessionView → Loan → NodeLoanFault → Type 0
IsLoanFaultSeen setup session asked (fault.Node told) = IsFaultSeen session told
IsLoanFaultSeen setup session asked told = PassesMost setup session.replica (part_of session.seen session.replica) asked told
