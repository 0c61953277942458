-- What a call of a client leaves of a turn, of its session and of an allowance.
use Rattle.std.specs.Prelude.{◌≡◌, ℕ, ◌+◌, ◌-◌, slice_index, slice_set}
use Rattle.run_model.specs.Histories.{calls_in, moment_at}
use Rattle.run_model.specs.Missing.{reserved}
use Rattle.run_model.specs.Replies.{reply_of}
use Rattle.run_model.specs.declared.call.Reply.{Reply}
use Rattle.run_model.specs.declared.call.Reply.TheVariants as reply
use Rattle.run_model.specs.declared.call.Request.{Request}
use Rattle.run_model.specs.declared.entry.Act.TheVariants as act
use Rattle.replica_lock.specs.Allowances.{allowance_of}
use Rattle.locked_replica.specs.Asking.{given_up}
use Rattle.locked_replica.specs.Journals.{IsInDoubtAfter, IsRefusal, call_in}
use Rattle.locked_replica.specs.Locks.{HasEntered, entry_in, made_place, one_more_at, part_in, turns_place}
use Rattle.replica_lock.specs.Sessions.{HasCalled, HasHeard, IsFaultSeen, NodeView, SessionView, TurnView, failed_by}
use Rattle.replica_lock.specs.Ledgers.{failed_book, failed_owes}
use Rattle.locked_replica.specs.declared.fault.NodeFault.{NodeFault}
use Rattle.replica_lock.specs.declared.reserving.Reserving.{Reserving}
use Rattle.replica_lock.specs.declared.reserving.Reserving.TheVariants as reserving

-- After a call of a session's client was answered: it is entered, with the reply that is due there. Of the totals, the
-- client's turns and the entries made for it have one more, and that of the conit asked for is what is reserved there
-- then; and so has the book, which goes there as far as what is reserved. And what the session has seen.
pub record HasAnswered (before after : TurnView) (old new : SessionView) (moment conit : ℕ) (asked : Request) (given : Reply) : Type 0 where
  pub entered : HasEntered before.state after.state old.seen
      (entry_in before.state moment (act.Call old.client (calls_in (part_in before.state) old.client) asked given))
  pub due : given ≡ reply_of before.state.core.setup before.state.core.replica (part_in before.state) (moment_at (part_in before.state) moment) asked
  pub totals : after.state.totals
      ≡ slice_set (one_more_at (made_place old.conits old.client) (one_more_at (turns_place old.conits old.client) before.state.totals)) conit
      (reserved (part_in after.state) conit)
  pub book : after.book ≡ slice_set (one_more_at (made_place old.conits old.client) (one_more_at (turns_place old.conits old.client) before.book)) conit
      (slice_index before.book conit + reserved (part_in after.state) conit - reserved (part_in before.state) conit)
  pub owes : after.owes ≡ before.owes
  pub called : HasCalled before.node.desk.setup old new moment asked given

-- After a call with an allowance on a conit was refused: there is no entry, and the session has heard what the clerk has
-- seen, and marks what it was told. Where the journal failed, the call is in doubt.
pub record HasRefused (before after : TurnView) (old new : SessionView) (moment conit : ℕ) (asked : Request) (told : NodeFault) : Type 0 where
  pub core : after.state.core ≡ before.state.core
  pub stored : after.state.stored ≡ before.state.stored
  pub totals : after.state.totals ≡ before.state.totals
  pub book : after.book ≡ failed_book old.conits old.client conit (given_up asked) told before.book
  pub owes : after.owes ≡ failed_owes old.client conit (given_up asked) told before.owes
  pub heard : HasHeard before.node.desk.setup old (failed_by told old) new
  pub fault : IsRefusal before.state.core before.journal after.journal told
  pub doubt : IsInDoubtAfter after.journal (call_in before.state moment old.client asked) told
  pub fault_seen : IsFaultSeen new told

-- a reply to a reserve that grants nothing: the amount passes a share by itself, with what is reserved, or with what a
-- peer may miss
abbrev pub IsReserveWait : Reply → Type 0
IsReserveWait (reply.TooHeavy conit peer weight share) = Unit {0}
IsReserveWait (reply.WaitHeld conit peer held weight share) = Unit {0}
IsReserveWait (reply.WaitShare conit peer missing held weight share) = Unit {0}
IsReserveWait other = ⊥

-- A reserve of an amount on a conit of a node, where it was answered: an allowance of just that amount, or the reply
-- that grants none.
abbrev pub IsReserved : NodeView → ℕ → ℕ → (Reply → Type 0) → Reserving → Type 0
IsReserved node conit amount Answered (reserving.Granted allowance) = Answered reply.Granted × (allowance ≡ allowance_of node conit amount)
IsReserved node conit amount Answered (reserving.Waiting given) = Answered given × IsReserveWait given
