-- Why no more is done for a session.
use Rattle.std.specs.Prelude.{◌≡◌, ◌≢◌, Bool, true, false, IsTrue}
use Rattle.locked_replica.specs.declared.fault.NodeFault.{NodeFault}
use Rattle.locked_replica.specs.declared.fault.NodeFault.TheVariants as node_fault
use Rattle.locked_replica.specs.declared.fault.RestartFault.{RestartFault}
use Rattle.locked_replica.specs.declared.fault.RestartFault.TheVariants as fault
use Rattle.replica_lock.specs.Restarts.{IsRestartFaultSeen}
use Rattle.replica_lock.specs.Sessions.{IsFaultSeen, SessionView, own_calls}
use Rattle.steady_node.specs.declared.ending.Ending.{Ending}

-- what a fault says of a session that was told it: it has marked that, and where its replica is full, it has seen that
abbrev pub IsTold : NodeFault → SessionView → Type 0
IsTold node_fault.Halted session = session.halts ≢ 0
IsTold node_fault.JournalFault session = session.faults ≢ 0
IsTold (node_fault.Full count stamp) session = IsFaultSeen session (node_fault.Full count stamp)
IsTold node_fault.NoMemory session = Unit {0}

-- Why a session ends: its replica is full, which it has seen; want of memory; its journal failed, which it has marked; or
-- it gave another piece than was appended, which no journal does that tells its pieces.
abbrev pub IsCause : Bool → SessionView → RestartFault → Type 0
IsCause tells session (fault.Full count stamp) = IsRestartFaultSeen session (fault.Full count stamp)
IsCause tells session fault.NoMemory = Unit {0}
IsCause tells session fault.JournalFault = session.faults ≢ 0
IsCause tells session fault.JournalReadFault = session.faults ≢ 0
IsCause tells session (fault.Foreign place) = IsTrue tells → ⊥

-- where its last call isn't lost, a session that has ended isn't in doubt, and has seen no more calls of its client
pub record HasEnded (tells : Bool) (before after : SessionView) (ending : Ending) : Type 0 where
  pub cause : IsCause tells after ending.fault
  pub certain : ending.lost ≡ false → after.doubt ≡ false
  pub calls : ending.lost ≡ false → own_calls after ≡ own_calls before

-- the last call is lost
abbrev pub IsLost : Ending → Type 0
IsLost ending = (ending.fault ≡ fault.JournalFault) × (ending.lost ≡ true)
