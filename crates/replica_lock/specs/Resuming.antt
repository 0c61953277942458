-- What became of the call that put a session in doubt.
use Rattle.std.specs.Prelude.{◌≡◌, ℕ, ◌+◌, Option, None, Some, List, [], ◌∷◌, ◌++◌, true, false, set, take}
use Rattle.tact_base.specs.Setup.{Setup}
use Rattle.run_model.specs.Histories.{calls_in, IsPrefix}
use Rattle.run_model.specs.Promises.{IsKept}
use Rattle.run_model.specs.Runs.{IsRun}
use Rattle.run_model.specs.declared.call.Reply.{Reply}
use Rattle.run_model.specs.declared.call.Request.{Request}
use Rattle.run_model.specs.declared.entry.Act.TheVariants as act
use Rattle.run_model.specs.declared.entry.Entry.{Entry}
use Rattle.locked_replica.specs.Restarting.{IsLastCall}
use Rattle.replica_lock.specs.Allowances.{AllowanceView, allowance_of}
use Rattle.replica_lock.specs.Ledgers.{owe_of, resumed_book, resumed_owe}
use Rattle.replica_lock.specs.Sessions.{HasHeard, NodeView, SessionView, TurnView, own_calls}
use Rattle.replica_lock.specs.declared.owe.Owe.{Owe}
use Rattle.replica_lock.specs.declared.resuming.Resumed.{Resumed}
use Rattle.replica_lock.specs.declared.resuming.Resumed.TheVariants as resumed

-- a session that isn't in doubt any more has seen a run that keeps its promises and begins with all that it had seen
pub record HasSettled (setup : Setup) (before after : SessionView) : Type 0 where
  pub in_doubt : before.doubt ≡ true
  pub told : IsPrefix before.seen after.seen
  pub run : IsRun setup after.seen
  pub promised : IsKept setup after.seen

-- Its call stands: its client's calls are those that it had counted, followed by this one. Or it doesn't: they are those
-- that it had counted.
pub record HasStood (setup : Setup) (before after : SessionView) (asked : Request) (given : Reply) : Type 0 where
  pub settled : HasSettled setup before after
  pub value : after ≡ record before { calls = before.calls + 1; doubt = false; seen = after.seen }
  pub entry : Entry
  pub number : ℕ
  pub call : entry.act ≡ act.Call before.client number asked given
  pub calls : own_calls after ≡ take before.calls (own_calls before) ++ entry ∷ []

pub record HasFallen (setup : Setup) (before after : SessionView) : Type 0 where
  pub settled : HasSettled setup before after
  pub value : after ≡ record before { doubt = false; seen = after.seen }
  pub calls : own_calls after ≡ take before.calls (own_calls before)

-- what a session has seen after it resumed
abbrev pub HasResumed : Setup → SessionView → SessionView → Resumed → Type 0
HasResumed setup before after resumed.Nothing = (before.doubt ≡ false) × HasHeard setup before before after
HasResumed setup before after (resumed.Stands asked given allowance) = HasStood setup before after asked given
HasResumed setup before after (resumed.Dropped allowance) = HasFallen setup before after

-- the allowance that comes with it, if there is one
abbrev pub allowance_in : Resumed → Option AllowanceView
allowance_in resumed.Nothing = None
allowance_in (resumed.Stands asked given allowance) = allowance
allowance_in (resumed.Dropped allowance) = allowance

-- what is owed, as an allowance, if there is one
abbrev pub IsPaid : NodeView → Owe → Option AllowanceView → Type 0
IsPaid node owe None = owe.amount ≡ None
IsPaid node owe (Some allowance) = (amount : ℕ) × (owe.amount ≡ Some amount) × (allowance ≡ allowance_of node owe.conit amount)

-- what a turn leaves of a session in doubt that resumed: what was owed to it is out
pub record HasPaid (before after : TurnView) (session : SessionView) (allowance : Option AllowanceView) : Type 0 where
  pub book : after.book ≡ resumed_book session.conits session.client (owe_of before.owes session.client) before.book
  pub owes : after.owes ≡ set before.owes session.client (resumed_owe (owe_of before.owes session.client))
  pub paid : IsPaid before.node (owe_of before.owes session.client) allowance

-- and how it resumed: as its call stands or not
abbrev pub IsResumedAs : TurnView → TurnView → SessionView → Resumed → Type 0
IsResumedAs before after session resumed.Nothing = (after.book ≡ before.book) × (after.owes ≡ before.owes)
IsResumedAs before after session (resumed.Stands asked given allowance) =
    ((owe_of before.owes session.client).stands ≡ true) × HasPaid before after session allowance
IsResumedAs before after session (resumed.Dropped allowance) =
    ((owe_of before.owes session.client).stands ≡ false) × HasPaid before after session allowance

-- how its session then is: a call that stands is the last of its client in the part
abbrev pub IsSettledAs : List Entry → SessionView → SessionView → Resumed → Type 0
IsSettledAs part before after resumed.Nothing = ⊥
IsSettledAs part before after (resumed.Stands asked given allowance) =
    (after ≡ record before { calls = before.calls + 1; doubt = false }) × IsLastCall part before.client asked given × (calls_in part before.client ≡ before.calls + 1)
IsSettledAs part before after (resumed.Dropped allowance) =
    (after ≡ record before { doubt = false }) × (calls_in part before.client ≡ before.calls)
