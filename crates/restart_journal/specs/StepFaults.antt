-- Why recovery ends, where the replica or the journal refused.
use Rattle.tact_io.specs.declared.fault.OutFault.{OutFault}
use Rattle.tact_io.specs.declared.fault.OutFault.TheVariants as out
use Rattle.replica_core.specs.declared.fault.CoreFault.{CoreFault}
use Rattle.replica_core.specs.declared.fault.CoreFault.TheVariants as core
use Rattle.restart_journal.specs.declared.fault.RecoverFault.{RecoverFault}
use Rattle.restart_journal.specs.declared.fault.RecoverFault.TheVariants as fault
use Rattle.restart_journal.specs.declared.fault.StepFault.{StepFault}
use Rattle.restart_journal.specs.declared.fault.StepFault.TheVariants as step

-- a full replica makes no further entry
abbrev pub step_of : CoreFault → StepFault
step_of (core.Full count clock) = step.Foreign
step_of core.NoMemory = step.NoMemory

-- what a journal that isn't read answers
abbrev pub read_fault : OutFault → RecoverFault
read_fault out.Failed = fault.JournalReadFault
read_fault out.NoMemory = fault.NoMemory
