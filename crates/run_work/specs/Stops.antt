-- Why no more is done for a client of a run.
use Rattle.std.specs.Prelude.{◌≡◌, ◌⊎◌, Bool, true, false, IsTrue, List, length}
use Rattle.tact_base.specs.declared.limits.TheConstants.{HISTORY_MAX}
use Rattle.run_model.specs.Taking.{clock}
use Rattle.run_model.specs.declared.entry.Entry.{Entry}
use Rattle.locked_replica.specs.declared.fault.RestartFault.{RestartFault}
use Rattle.locked_replica.specs.declared.fault.RestartFault.TheVariants as fault
use Rattle.steady_node.specs.declared.ending.Ending.{Ending}

-- what a stop tells of what the session had seen: full, where the replica made as many entries as it may, with both numbers;
-- another piece than was appended, which no journal gives that tells its pieces
abbrev pub IsStopBy : Bool → RestartFault → List Entry → Type 0
IsStopBy tells (fault.Full count stamp) part = (length part ≡ HISTORY_MAX) × (count ≡ HISTORY_MAX) × (stamp ≡ clock part)
IsStopBy tells (fault.Foreign place) part = IsTrue tells → ⊥
IsStopBy tells other part = Unit {0}

-- a stop tells that a journal failed
abbrev pub is_failure : RestartFault → Bool
is_failure fault.JournalFault = true
is_failure fault.JournalReadFault = true
is_failure other = false

-- a run stopped for a journal that failed: that is told, or a call is lost
abbrev pub IsFailed : Ending → Type 0
IsFailed ending = (is_failure ending.fault ≡ true) ⊎ (ending.lost ≡ true)
