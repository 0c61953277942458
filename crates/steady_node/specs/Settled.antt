-- What became of a call that was refused.
use Rattle.std.specs.Prelude.{◌≡◌, ◌≢◌, ◌⊎◌, ℕ, Bool, true, false, [], ◌∷◌, ◌++◌, length, Option, None}
use Rattle.tact_base.specs.Setup.{Setup}
use Rattle.run_model.specs.Promises.{IsKept}
use Rattle.run_model.specs.Runs.{IsRun}
use Rattle.run_model.specs.declared.call.Reply.{Reply}
use Rattle.run_model.specs.declared.call.Request.{Request}
use Rattle.run_model.specs.declared.entry.Act.TheVariants as act
use Rattle.run_model.specs.declared.entry.Entry.{Entry}
use Rattle.locked_replica.specs.declared.fault.NodeFault.{NodeFault}
use Rattle.locked_replica.specs.declared.fault.NodeFault.TheVariants as fault
use Rattle.replica_lock.specs.Allowances.{AllowanceView}
use Rattle.replica_lock.specs.Sessions.{SessionView, own_calls}
use Rattle.replica_lock.specs.declared.resuming.Resumed.{Resumed}
use Rattle.replica_lock.specs.declared.resuming.Resumed.TheVariants as resumed
use Rattle.steady_node.specs.Endings.{IsTold}
use Rattle.steady_node.specs.declared.settling.Outcome.{Outcome}
use Rattle.steady_node.specs.declared.settling.Outcome.TheVariants as outcome

-- which fault puts a session in doubt
abbrev pub is_doubtful : NodeFault → Bool
is_doubtful fault.JournalFault = true
is_doubtful other = false

-- a session whose call was refused: it has seen as many calls of its client as it counts
pub record IsRefused (told : NodeFault) (session : SessionView) : Type 0 where
  pub counted : session.calls ≡ length (own_calls session)
  pub doubt : session.doubt ≡ is_doubtful told
  pub told_is : IsTold told session

-- a session has seen one more call of its client, in a run that keeps its promises
pub record HasCallMore (setup : Setup) (before after : SessionView) (asked : Request) (given : Reply) : Type 0 where
  pub entry : Entry
  pub number : ℕ
  pub act_is : entry.act ≡ act.Call before.client number asked given
  pub calls : own_calls after ≡ own_calls before ++ entry ∷ []
  pub run : IsRun setup after.seen
  pub promised : IsKept setup after.seen

-- what came back of the call that put a session in doubt
abbrev pub HasComeBack : Setup → SessionView → SessionView → Resumed → Type 0
HasComeBack setup before after resumed.Nothing = ⊥
HasComeBack setup before after (resumed.Stands asked given allowance) = HasCallMore setup before after asked given
HasComeBack setup before after (resumed.Dropped allowance) = own_calls after ≡ own_calls before

-- that call, if it is the one that was asked for
abbrev pub IsResumedAs : Request → Resumed → Outcome → Type 0
IsResumedAs wanted (resumed.Stands asked given allowance) (outcome.Stands reply back) =
    (asked ≡ wanted) × (reply ≡ given) × (back ≡ allowance)
IsResumedAs wanted (resumed.Dropped allowance) (outcome.Dropped back) = back ≡ allowance
IsResumedAs wanted told other = ⊥

-- what became of a call, as what came back with just its request; and by what the session has seen
abbrev pub told_of : Request → Outcome → Resumed
told_of asked (outcome.Stands given back) = resumed.Stands asked given back
told_of asked (outcome.Dropped back) = resumed.Dropped back

abbrev pub IsOutcome : Setup → Request → SessionView → SessionView → Outcome → Type 0
IsOutcome setup asked before after came = HasComeBack setup before after (told_of asked came)

-- the allowance that comes back, if there is one; a call that wasn't made and of which nothing comes back
abbrev pub back_in : Outcome → Option AllowanceView
back_in (outcome.Stands given back) = back
back_in (outcome.Dropped back) = back

abbrev pub nothing_back : Outcome
nothing_back = outcome.Dropped None

-- and by the fault that it was refused with: where the node was halted it wasn't made; or the journal failed, which the
-- session has marked
abbrev pub IsOutcomeOf : NodeFault → SessionView → Outcome → Type 0
IsOutcomeOf told after came = ((told ≡ fault.Halted) × (came ≡ nothing_back)) ⊎ ((told ≡ fault.JournalFault) × (after.faults ≢ 0))
